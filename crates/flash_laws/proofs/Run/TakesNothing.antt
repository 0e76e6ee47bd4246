-- The steps that send nothing: they take no bytes, do not abort, and hand a job over in order.
use Rattle.std.proofs.Common.{inl, inr, ◌≡◌, ℕ, ◌⊎◌, List, [], ◌∷◌, refl, Option, Some, None, true, false, Bool}
use Rattle.std.proofs.Common.{if◌then◌else◌}
use Rattle.std.specs.Prelude.{nat_lt}
use Rattle.iol_core.specs.declared.refusals.Refusal.TheVariants as no
use Rattle.iol_core.specs.declared.events.Reply.{Reply}
use Rattle.iol_core.specs.declared.events.Reply.TheVariants as reply
use Rattle.flash_http.specs.Request.{Wanted}
use Rattle.flash_laws.specs.Conn.{Following, count_of}
use Rattle.flash_laws.specs.Run.OfferedBytes.{taken_by, breaks_off, is_failing, is_handing, ComesAfter}
use Rattle.flash_laws.specs.Run.{both, is_again, after_give, after_make, after_hand, after_release_job, after_output}
use Rattle.flash_laws.specs.Run.{filled, holding, on_output, finishing, stopped, ending, after_step}
use Rattle.flash_laws.proofs.Moves.{after-done, after-agg, either-way}
use Rattle.flash_laws.specs.declared.script_run.TheConstants.{CHUNK_BYTES}
use Rattle.flash_laws.specs.declared.script_run.Run.{Run}
use Rattle.flash_laws.specs.declared.script_run.Step.{Step}
use Rattle.flash_laws.specs.declared.script_run.Step.TheVariants.{GivingPipe, MakingJob, WritingJob, DroppingJob}
use Rattle.flash_laws.specs.declared.script_run.Step.TheVariants.{MakingHead, SendingPart, ReadingOutput}
use Rattle.flash_laws.specs.declared.script_run.Step.TheVariants.{DroppingOutput, JoiningOutput, MakingFrame}
use Rattle.flash_laws.specs.declared.script_run.Step.TheVariants.{FillingFrame, DroppingHeld, DroppingEnd}
use Rattle.flash_laws.specs.declared.script_run.Step.TheVariants.{DiscardingHeld}
use Rattle.flash_laws.specs.declared.script_run.Step.TheVariants.{ClosingOutput, DroppingFrame, MakingEnd, FillingEnd}
use Rattle.flash_laws.specs.declared.script_run.Step.TheVariants.{DroppingLast, DroppingLastFrame}
use Rattle.flash_laws.specs.declared.script_run.Step.TheVariants.{ClosingPipe, DiscardingJob, Failing}
use Rattle.flash_laws.specs.declared.script_run.Running.{Running}
use Rattle.flash_laws.specs.declared.script_run.Running.TheVariants.{InProgress}

-- whether a part of the response is being sent
abbrev pub is_part : Step → Bool
is_part (SendingPart d frame) = true
is_part s = false

-- whether the script may be given up now
abbrev pub may_fail : Step → Bool
may_fail (GivingPipe write) = true
may_fail (WritingJob j f) = true
may_fail (ClosingPipe write) = true
may_fail (DiscardingJob j) = true
may_fail Failing = true
may_fail s = false

-- the server may not read the output
abbrev pub Bars : Step → Reply → Type 0
Bars (ReadingOutput held frame) (reply.Refused (no.Denied p)) = Unit {0}
Bars s r = ⊥

-- A reply r to the step s, with y as the next state, takes no bytes. It aborts only if the run was broken or the server
-- may not read the output. It gives the script up only if the step may, and it hands the job over in order.
abbrev pub TakesNothing : Run → Step → Reply → Running → Type 0
TakesNothing run s r y = (taken_by y ≡ 0)
    × (breaks_off y ≡ true → (run.broken ≡ true) ⊎ Bars s r)
    × (is_failing y ≡ true → may_fail s ≡ true)
    × ((y ≡ InProgress run s) ⊎ ComesAfter (InProgress run s) r y)

module _ (w : Wanted) (run : Run) where
  gives : (write : ℕ) (r : Reply) → TakesNothing run (GivingPipe write) r (InProgress run (after_give write r))
  gives write (reply.Fd f) = (refl, λ b. inl b, λ z. refl, inr (write, refl, refl))
  gives write (reply.Refused x) =
      either-way (λ (s : Step). TakesNothing run (GivingPipe write) (reply.Refused x) (InProgress run s)) (is_again x) (
        refl,
        λ b. inl b,
        λ z. refl,
        inl refl,
      ) (refl, λ b. inl b, λ z. refl, inr tt)
  gives write r = (refl, λ b. inl b, λ z. refl, inl refl)

  makes : (f : ℕ) (r : Reply) → TakesNothing run (MakingJob f) r (InProgress run (after_make f r))
  makes f (reply.Agg n) = (refl, λ b. inl b, λ z. absurd (cc (z)), inr (refl, refl))
  makes f r = (refl, λ b. inl b, λ z. absurd (cc (z)), inl refl)

  hands : (j f : ℕ) (r : Reply) → TakesNothing run (WritingJob j f) r (InProgress run (after_hand j f r))
  hands j f (reply.Count k) = (refl, λ b. inl b, λ z. refl, inr (f, k, refl, refl))
  hands j f (reply.Refused x) =
      either-way (λ (s : Step). TakesNothing run (WritingJob j f) (reply.Refused x) (InProgress run s)) (is_again x) (
        refl,
        λ b. inl b,
        λ z. refl,
        inl refl,
      ) (refl, λ b. inl b, λ z. refl, inr tt)
  hands j f r = (refl, λ b. inl b, λ z. refl, inl refl)

  lets : (j : ℕ) (r : Reply) → TakesNothing run (DroppingJob j) r (InProgress run (after_release_job j r))
  lets j reply.Done = (refl, λ b. inl b, λ z. absurd (cc (z)), inr (j, refl, refl))
  lets j r = (refl, λ b. inl b, λ z. absurd (cc (z)), inl refl)

  -- the step is unchanged
  stays : (s : Step) (r : Reply) → is_part s ≡ false → TakesNothing run s r (InProgress run s)
  stays (SendingPart d frame) r plain = absurd (cc (plain))
  stays s r plain = (refl, λ b. inl b, λ z. cc (z), inl refl)

  abbrev Then : Step → Reply → Step → Type 0
  Then s r t = TakesNothing run s r (InProgress run t)

  holds : (s : Step) (r : Reply) (held size : ℕ) (frame : Option ℕ)
      → TakesNothing run s r (InProgress run (holding held size frame))
  holds s r held size frame = by (nat_lt size CHUNK_BYTES) frame
    where
      by : (b : Bool) (frame : Option ℕ)
          → TakesNothing run s r
          (InProgress run (if b then ReadingOutput (Some (held, size)) frame else filled held frame))
      by true frame = (refl, λ b. inl b, λ z. absurd (cc (z)), inr tt)
      by false None = (refl, λ b. inl b, λ z. absurd (cc (z)), inr tt)
      by false (Some f) = (refl, λ b. inl b, λ z. absurd (cc (z)), inr tt)

  on_output-on : (s : Step) (r : Reply) (c d : Bool) (held : Following) (frame : Option ℕ) (a len : ℕ)
      → is_handing (InProgress run s) ≡ false
      → TakesNothing run s r (InProgress run (on_output c d held frame a len))
  on_output-on s r true d held frame a len handed = (refl, λ b. inl b, λ z. absurd (cc (z)), inr tt)
  on_output-on s r false false held frame a len handed = (refl, λ b. absurd (cc (b)), λ z. absurd (cc (z)), inr handed)
  on_output-on s r false true None frame a len handed = holds s r a len frame
  on_output-on s r false true (Some x) frame a len handed = (refl, λ b. inl b, λ z. absurd (cc (z)), inr tt)

  receives : (held : Following) (frame : Option ℕ) (r : Reply) (received : List ℕ)
      → TakesNothing run (ReadingOutput held frame) r (after_output w run held frame r received)
  receives held frame (reply.Agg n) [] = (refl, λ b. inl b, λ z. absurd (cc (z)), inr tt)
  receives held frame (reply.Agg n) (b ∷ received) =
      on_output-on (ReadingOutput held frame) (reply.Agg n) run.broken w.chunked held frame n (count_of (b ∷ received))
      refl
  receives None frame (reply.Refused (no.Denied p)) received = (refl, λ b. inr tt, λ z. absurd (cc (z)), inr tt)
  receives (Some x) frame (reply.Refused (no.Denied p)) received = (refl, λ b. inr tt, λ z. absurd (cc (z)), inr tt)
  receives held frame r received = (refl, λ b. inl b, λ z. absurd (cc (z)), inl refl)

  finishes : (s : Step) (r : Reply) (b c : Bool) (held : Following) → TakesNothing run s r (finishing b c run held)
  finishes s r false true held = (refl, λ b. inl b, λ z. absurd (cc (z)), inr tt)
  finishes s r false false held = (refl, λ b. absurd (cc (b)), λ z. absurd (cc (z)), inr tt)
  finishes s r true c held = (refl, λ b. absurd (cc (b)), λ z. absurd (cc (z)), inr tt)

  stops : (held : Following) (frame : Option ℕ) (r : Reply)
      → TakesNothing run (ClosingOutput held frame) r (stopped w run held frame)
  stops held None r = finishes (ClosingOutput held None) r run.broken w.chunked held
  stops held (Some f) r = (refl, λ b. inl b, λ z. absurd (cc (z)), inr tt)

  lasts : (held : Following) (r : Reply) (n len : ℕ) → TakesNothing run (MakingEnd held) r (ending run held n len)
  lasts None r n len = (refl, λ b. absurd (cc (b)), λ z. absurd (cc (z)), inr tt)
  lasts (Some x) r n len = (refl, λ b. inl b, λ z. absurd (cc (z)), inr tt)

  pub takes_nothing : (s : Step) (r : Reply) (received : List ℕ) → is_part s ≡ false
      → TakesNothing run s r (after_step w run s r received)
  takes_nothing (GivingPipe write) r received plain = gives write r
  takes_nothing (MakingJob f) r received plain = makes f r
  takes_nothing (WritingJob j f) r received plain = hands j f r
  takes_nothing (DroppingJob j) r received plain = lets j r
  takes_nothing MakingHead r received plain =
      after-agg (Then MakingHead r) r (stays MakingHead r refl)
      (λ n. (refl, λ b. absurd (cc (b)), λ z. absurd (cc (z)), inr refl))
  takes_nothing (SendingPart d frame) r received plain = absurd (cc (plain))
  takes_nothing (ReadingOutput held frame) r received plain = receives held frame r received
  takes_nothing (DroppingOutput a frame) r received plain =
      after-done (Then (DroppingOutput a frame) r) r (stays (DroppingOutput a frame) r refl) (
        refl,
        λ b. inl b,
        λ z. absurd (cc (z)),
        inr tt,
      )
  takes_nothing (JoiningOutput held size piece len frame) r received plain = let s =
      JoiningOutput held size piece len frame in
      after-agg (Then s r) r (stays s r refl) (λ n. holds s r n (both size len) frame)
  takes_nothing (MakingFrame held) r received plain =
      after-agg (Then (MakingFrame held) r) r (stays (MakingFrame held) r refl)
      (λ n. (refl, λ b. inl b, λ z. absurd (cc (z)), inr tt))
  takes_nothing (FillingFrame held frame) r received plain =
      after-agg (Then (FillingFrame held frame) r) r (stays (FillingFrame held frame) r refl)
      (λ n. (refl, λ b. inl b, λ z. absurd (cc (z)), inr tt))
  takes_nothing (DroppingHeld held chunk len frame) r received plain =
      after-done (Then (DroppingHeld held chunk len frame) r) r (stays (DroppingHeld held chunk len frame) r refl)
      (refl, λ b. absurd (cc (b)), λ z. absurd (cc (z)), inr refl)
  takes_nothing (DroppingEnd a held frame) r received plain =
      after-done (Then (DroppingEnd a held frame) r) r (stays (DroppingEnd a held frame) r refl) (
        refl,
        λ b. inl b,
        λ z. absurd (cc (z)),
        inr tt,
      )
  takes_nothing (DiscardingHeld held frame) r received plain =
      after-done (Then (DiscardingHeld held frame) r) r (stays (DiscardingHeld held frame) r refl) (
        refl,
        λ b. inl b,
        λ z. absurd (cc (z)),
        inr tt,
      )
  takes_nothing (ClosingOutput held frame) r received plain =
      after-done (TakesNothing run (ClosingOutput held frame) r) r (stays (ClosingOutput held frame) r refl)
      (stops held frame r)
  takes_nothing (DroppingFrame f held) r received plain =
      after-done (TakesNothing run (DroppingFrame f held) r) r (stays (DroppingFrame f held) r refl)
      (finishes (DroppingFrame f held) r run.broken w.chunked held)
  takes_nothing (MakingEnd held) r received plain =
      after-agg (TakesNothing run (MakingEnd held) r) r (stays (MakingEnd held) r refl)
      (λ n. lasts held r n (count_of received))
  takes_nothing (FillingEnd held size frame) r received plain =
      after-agg (Then (FillingEnd held size frame) r) r (stays (FillingEnd held size frame) r refl)
      (λ n. (refl, λ b. inl b, λ z. absurd (cc (z)), inr tt))
  takes_nothing (DroppingLast held chunk len frame) r received plain =
      after-done (Then (DroppingLast held chunk len frame) r) r (stays (DroppingLast held chunk len frame) r refl)
      (refl, λ b. inl b, λ z. absurd (cc (z)), inr tt)
  takes_nothing (DroppingLastFrame frame chunk len) r received plain =
      after-done (TakesNothing run (DroppingLastFrame frame chunk len) r) r
      (stays (DroppingLastFrame frame chunk len) r refl)
      (refl, λ b. absurd (cc (b)), λ z. absurd (cc (z)), inr tt)
  takes_nothing (ClosingPipe write) r received plain =
      after-done (Then (ClosingPipe write) r) r (stays (ClosingPipe write) r refl) (refl, λ b. inl b, λ z. refl, inr tt)
  takes_nothing (DiscardingJob j) r received plain =
      after-done (Then (DiscardingJob j) r) r (stays (DiscardingJob j) r refl) (refl, λ b. inl b, λ z. refl, inr tt)
  takes_nothing Failing r received plain =
      after-done (TakesNothing run Failing r) r (stays Failing r refl) (refl, λ b. absurd (cc (b)), λ z. refl, inr tt)
