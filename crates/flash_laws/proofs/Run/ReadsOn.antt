-- Output is read until its end, or until the server may not read it.
use Rattle.std.proofs.Common.{◌≡◌, ℕ, List, [], ◌∷◌, refl, Option, Some, None, true, false, Bool}
use Rattle.std.specs.Prelude.{nat_lt}
use Rattle.iol_core.specs.declared.refusals.Refusal.TheVariants as no
use Rattle.iol_core.specs.declared.events.Reply.{Reply}
use Rattle.iol_core.specs.declared.events.Reply.TheVariants as reply
use Rattle.flash_http.specs.Request.{Wanted}
use Rattle.flash_laws.specs.Conn.{Following, count_of}
use Rattle.flash_laws.specs.Run.OfferedBytes.{is_stopping, StopsBy}
use Rattle.flash_laws.specs.Run.{both, is_again, after_give, after_hand, after_sending, after_output, holding}
use Rattle.flash_laws.specs.Run.{on_output, after_reply}
use Rattle.flash_laws.specs.declared.phase.Phase.{Phase}
use Rattle.flash_laws.specs.declared.phase.Phase.TheVariants as phase
use Rattle.flash_laws.specs.declared.script_run.TheConstants.{CHUNK_BYTES}
use Rattle.flash_laws.specs.declared.script_run.Run.{Run}
use Rattle.flash_laws.specs.declared.script_run.Step.{Step}
use Rattle.flash_laws.specs.declared.script_run.Step.TheVariants.{GivingPipe, MakingJob, WritingJob, DroppingJob}
use Rattle.flash_laws.specs.declared.script_run.Step.TheVariants.{MakingHead, SendingPart, ReadingOutput}
use Rattle.flash_laws.specs.declared.script_run.Step.TheVariants.{DroppingOutput, JoiningOutput, MakingFrame}
use Rattle.flash_laws.specs.declared.script_run.Step.TheVariants.{FillingFrame, DroppingHeld, ClosingPipe}
use Rattle.flash_laws.specs.declared.script_run.Step.TheVariants.{DiscardingJob, Failing}
use Rattle.flash_laws.specs.declared.script_run.Running.{Running}
use Rattle.flash_laws.specs.declared.script_run.Running.TheVariants.{AwaitingWorker, InProgress}
use Rattle.flash_laws.proofs.Lists.{clash}
use Rattle.flash_laws.proofs.Moves.{after-done, after-agg, either-way}

module _ (run : Run) where
  abbrev Goes : Running → Type 0
  Goes y = is_stopping y ≡ false

  abbrev Going : Step → Type 0
  Going t = Goes (InProgress run t)

  gives : (write : ℕ) (r : Reply) → Going (after_give write r)
  gives write (reply.Fd f) = refl
  gives write (reply.Refused x) = either-way Going (is_again x) refl refl
  gives write r = refl

  hands : (j f : ℕ) (r : Reply) → Going (after_hand j f r)
  hands j f (reply.Count k) = refl
  hands j f (reply.Refused x) = either-way Going (is_again x) refl refl
  hands j f r = refl

  sending : (d : Phase) (frame : Option ℕ) (r : Reply) → Goes (after_sending run d frame r)
  sending (phase.DroppingSent a taken None) frame reply.Done = refl
  sending (phase.Aborting a None) frame reply.Done = refl
  sending d frame r = refl

  holds : (held size : ℕ) (frame : Option ℕ) → Going (holding held size frame)
  holds held size None = either-way Going (nat_lt size CHUNK_BYTES) refl refl
  holds held size (Some f) = either-way Going (nat_lt size CHUNK_BYTES) refl refl

  on_output-on : (b c : Bool) (held : Following) (frame : Option ℕ) (a len : ℕ) → Going (on_output b c held frame a len)
  on_output-on true c held frame a len = refl
  on_output-on false false held frame a len = refl
  on_output-on false true None frame a len = holds a len frame
  on_output-on false true (Some x) frame a len = refl

  receives : (w : Wanted) (held : Following) (frame : Option ℕ) (r : Reply) (received : List ℕ)
      → is_stopping (after_output w run held frame r received) ≡ true
      → StopsBy (InProgress run (ReadingOutput held frame)) r received
  receives w held frame (reply.Agg n) [] z = refl
  receives w held frame (reply.Agg n) (b ∷ received) z =
      let next = InProgress run (on_output run.broken w.chunked held frame n (count_of (b ∷ received))) in
      absurd (clash (is_stopping next) z (on_output-on run.broken w.chunked held frame n (count_of (b ∷ received))))
  receives w held frame (reply.Refused (no.Denied p)) received z = tt
  receives w held frame r received z = absurd (cc (z))

  abbrev is_reading : Step → Bool
  is_reading (ReadingOutput held frame) = true
  is_reading s = false

  goes : (worker : ℕ) (w : Wanted) (s : Step) (r : Reply) (received : List ℕ) → is_stopping (InProgress run s) ≡ false
      → is_reading s ≡ false → Goes (after_reply worker w (InProgress run s) r received)
  goes worker w (GivingPipe write) r received on other = gives write r
  goes worker w (MakingJob f) r received on other = after-agg Going r refl (λ n. refl)
  goes worker w (WritingJob j f) r received on other = hands j f r
  goes worker w (DroppingJob j) r received on other = after-done Going r refl refl
  goes worker w MakingHead r received on other = after-agg Going r refl (λ n. refl)
  goes worker w (SendingPart d frame) r received on other = sending d frame r
  goes worker w (DroppingOutput a frame) r received on other = after-done Going r refl refl
  goes worker w (JoiningOutput held size piece len frame) r received on other =
      after-agg Going r refl (λ n. holds n (both size len) frame)
  goes worker w (MakingFrame held) r received on other = after-agg Going r refl (λ n. refl)
  goes worker w (FillingFrame held frame) r received on other = after-agg Going r refl (λ n. refl)
  goes worker w (DroppingHeld held chunk len frame) r received on other = after-done Going r refl refl
  goes worker w (ClosingPipe write) r received on other = after-done Going r refl refl
  goes worker w (DiscardingJob j) r received on other = after-done Going r refl refl
  goes worker w Failing r received on other = after-done Goes r refl refl
  goes worker w (ReadingOutput held frame) r received on other = absurd (cc (other))
  goes worker w s r received on other = absurd (cc (on))

  steps : (worker : ℕ) (w : Wanted) (s : Step) (r : Reply) (received : List ℕ) → is_stopping (InProgress run s) ≡ false
      → is_stopping (after_reply worker w (InProgress run s) r received) ≡ true → StopsBy (InProgress run s) r received
  steps worker w (ReadingOutput held frame) r received on z = receives w held frame r received z
  steps worker w s r received on z =
      absurd
      (clash (is_stopping (after_reply worker w (InProgress run s) r received)) z (goes worker w s r received on refl))

pub reads_on : (worker : ℕ) (w : Wanted) (x : Running) (r : Reply) (received : List ℕ) → is_stopping x ≡ false
    → is_stopping (after_reply worker w x r received) ≡ true → StopsBy x r received
reads_on worker w AwaitingWorker r received on z = absurd (by r z)
  where
    by : (r : Reply) → is_stopping (after_reply worker w AwaitingWorker r received) ≡ true → ⊥
    by (reply.Fds from write) z = cc (z)
    by r z = cc (z)
reads_on worker w (InProgress run s) r received on z = steps run worker w s r received on z
reads_on worker w x r received on z = absurd (cc (z))
