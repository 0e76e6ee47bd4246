-- The end of a run, and the time until which it keeps the text of its script.
use Rattle.std.proofs.Common.{inl, inr, ◌≡◌, ℕ, ◌⊎◌, List, [], ◌∷◌, ap, refl, sym, subst, Option, Some, None, true}
use Rattle.std.proofs.Common.{false, Bool, if◌then◌else◌}
use Rattle.std.specs.Prelude.{nat_lt}
use Rattle.iol_core.specs.declared.refusals.Refusal.TheVariants as no
use Rattle.iol_core.specs.declared.events.Reply.{Reply}
use Rattle.iol_core.specs.declared.events.Reply.TheVariants as reply
use Rattle.flash_http.specs.Request.{Wanted}
use Rattle.flash_laws.specs.Client.{job_of, keeps_text, after_run}
use Rattle.flash_laws.specs.Conn.{Following, count_of}
use Rattle.iol_core.specs.State.{State}
use Rattle.flash_laws.specs.Client.ResponseState.{IsTaken, IsAfter}
use Rattle.flash_laws.specs.Run.Fits.{Progress, Broken, IsLeft, HasNone, HasLeft, HasRun}
use Rattle.flash_laws.specs.Run.{is_again, is_left, is_over, next_call, after_reply, after_step, holding, on_output}
use Rattle.flash_laws.specs.Run.{filled}
use Rattle.flash_laws.specs.Run.{finishing, both}
use Rattle.flash_laws.specs.declared.phase.Phase.{Phase}
use Rattle.flash_laws.specs.declared.phase.Phase.TheVariants as phase
use Rattle.flash_laws.specs.declared.script_run.TheConstants.{CHUNK_BYTES}
use Rattle.flash_laws.specs.declared.script_run.Run.{Run}
use Rattle.flash_laws.specs.declared.script_run.Step.{Step}
use Rattle.flash_laws.specs.declared.script_run.Step.TheVariants.{GivingPipe, MakingJob, WritingJob, DroppingJob}
use Rattle.flash_laws.specs.declared.script_run.Step.TheVariants.{MakingHead, SendingPart, ReadingOutput}
use Rattle.flash_laws.specs.declared.script_run.Step.TheVariants.{DroppingOutput, JoiningOutput, MakingFrame}
use Rattle.flash_laws.specs.declared.script_run.Step.TheVariants.{FillingFrame, DroppingHeld, DroppingEnd}
use Rattle.flash_laws.specs.declared.script_run.Step.TheVariants.{DiscardingHeld}
use Rattle.flash_laws.specs.declared.script_run.Step.TheVariants.{ClosingOutput, DroppingFrame, MakingEnd, FillingEnd}
use Rattle.flash_laws.specs.declared.script_run.Step.TheVariants.{DroppingLast, DroppingLastFrame}
use Rattle.flash_laws.specs.declared.script_run.Step.TheVariants.{ClosingPipe, DiscardingJob, Failing}
use Rattle.flash_laws.specs.declared.script_run.Running.{Running}
use Rattle.flash_laws.specs.declared.script_run.Running.TheVariants.{AwaitingWorker, InProgress, Finishing}
use Rattle.flash_laws.specs.declared.script_run.Running.TheVariants.{Disconnecting}
use Rattle.flash_laws.proofs.Lists.{clash, not-true}
use Rattle.flash_laws.proofs.Moves.{either-way}

-- ---- at its end the connection is idle, or is to be closed

abbrev pub IsEnd : Phase → Type 0
IsEnd d = (d ≡ phase.Receiving) ⊎ (d ≡ phase.Disconnecting)

-- a phase that has no more to send is an end
left-ends : (m : State) (w : Wanted) (o : Progress) (d : Phase) → HasLeft m w o d → is_left d ≡ false → IsEnd d
left-ends m w o phase.Receiving has over = inl refl
left-ends m w o phase.Disconnecting has over = inr refl
left-ends m w o (phase.MakingHead k) has over = absurd (cc (over))
left-ends m w o (phase.SendingWhole s) has over = absurd (cc (over))
left-ends m w o (phase.CuttingPiece s) has over = absurd (cc (over))
left-ends m w o (phase.SendingPiece s piece) has over = absurd (cc (over))
left-ends m w o (phase.DroppingPiece s piece) has over = absurd (cc (over))
left-ends m w o (phase.DroppingSent a taken more) has over = absurd (cc (over))
left-ends m w o (phase.AbortingPiece piece a more) has over = absurd (cc (over))
left-ends m w o (phase.Aborting a more) has over = absurd (cc (over))
left-ends m w o d has over = absurd has.sends.0

pub run-ends : (job : ℕ → List ℕ) (m : State) (w : Wanted) (o : Progress) (z : Running) → HasRun job m w o z
    → is_over z ≡ true → IsEnd (after_run z)
run-ends job m w o (Finishing d) has over = left-ends m w o d has (not-true (is_left d) over)
run-ends job m w o Disconnecting has over = inr refl
run-ends job m w o x has over = absurd (cc (over))

-- ---- at its end all of the response was taken, or it was aborted

pub all-taken : (w : Wanted) (o : Progress) → IsLeft w o [] → IsTaken w o
all-taken w Broken left = absurd left
all-taken w x left = left

none-taken : (w : Wanted) (o : Progress) → HasNone w o → IsTaken w o
none-taken w Broken none = tt
none-taken w x none = none.0

left-after : (m : State) (w : Wanted) (o : Progress) (d : Phase) → HasLeft m w o d → IsEnd d → IsAfter w o d
left-after m w o d has ends = elim ends [
  | inl rests ↦ subst (λ (e : Phase). IsAfter w o e) (sym rests) (subst (λ (e : Phase). HasLeft m w o e) rests has)
  | inr closes ↦
      subst (λ (e : Phase). IsAfter w o e) (sym closes)
      (none-taken w o (subst (λ (e : Phase). HasLeft m w o e) closes has))
]

pub run-after : (job : ℕ → List ℕ) (m : State) (w : Wanted) (o : Progress) (z : Running) → HasRun job m w o z
    → is_over z ≡ true → IsAfter w o (after_run z)
run-after job m w o (Finishing d) has over = left-after m w o d has (left-ends m w o d has (not-true (is_left d) over))
run-after job m w o Disconnecting has over = none-taken w o has
run-after job m w o x has over = absurd (cc (over))

-- ---- the text is held until the job is made

abbrev Forgets : Running → Type 0
Forgets z = keeps_text z ≡ false

holding-forgets : (run : Run) (held size : ℕ) (frame : Option ℕ) → Forgets (InProgress run (holding held size frame))
holding-forgets run held size frame = by (nat_lt size CHUNK_BYTES) frame
  where
    by : (t : Bool) (frame : Option ℕ)
        → Forgets (InProgress run (if t then ReadingOutput (Some (held, size)) frame else filled held frame))
    by true frame = refl
    by false None = refl
    by false (Some f) = refl

on_output-forgets : (run : Run) (b c : Bool) (held : Following) (frame : Option ℕ) (a len : ℕ)
    → Forgets (InProgress run (on_output b c held frame a len))
on_output-forgets run true c held frame a len = refl
on_output-forgets run false false held frame a len = refl
on_output-forgets run false true None frame a len = holding-forgets run a len frame
on_output-forgets run false true (Some x) frame a len = refl

finishing-forgets : (b c : Bool) (run : Run) (held : Following) → Forgets (finishing b c run held)
finishing-forgets false true run held = refl
finishing-forgets false false run held = refl
finishing-forgets true c run held = refl

step-forgets : (w : Wanted) (run : Run) (s : Step) (r : Reply) (received : List ℕ)
    → keeps_text (InProgress run s) ≡ false
    → Forgets (after_step w run s r received)
step-forgets w run (GivingPipe write) r received was = absurd (cc (was))
step-forgets w run (MakingJob f) r received was = absurd (cc (was))
step-forgets w run (WritingJob j f) (reply.Count n) received was = refl
step-forgets w run (WritingJob j f) (reply.Refused x) received was =
    either-way (λ (s : Step). Forgets (InProgress run s)) (is_again x) refl refl
step-forgets w run (DroppingJob j) reply.Done received was = refl
step-forgets w run MakingHead (reply.Agg n) received was = refl
step-forgets w run (SendingPart (phase.DroppingSent a taken None) frame) reply.Done received was = refl
step-forgets w run (SendingPart (phase.Aborting a None) frame) reply.Done received was = refl
step-forgets w run (ReadingOutput held frame) (reply.Agg n) [] was = refl
step-forgets w run (ReadingOutput held frame) (reply.Agg n) (b ∷ received) was =
    on_output-forgets run run.broken w.chunked held frame n (count_of (b ∷ received))
step-forgets w run (ReadingOutput None frame) (reply.Refused (no.Denied p)) received was = refl
step-forgets w run (ReadingOutput (Some x) frame) (reply.Refused (no.Denied p)) received was = refl
step-forgets w run (DroppingOutput a frame) reply.Done received was = refl
step-forgets w run (JoiningOutput held size piece len frame) (reply.Agg n) received was =
    holding-forgets run n (both size len) frame
step-forgets w run (MakingFrame held) (reply.Agg n) received was = refl
step-forgets w run (FillingFrame held frame) (reply.Agg n) received was = refl
step-forgets w run (DroppingHeld held chunk len frame) reply.Done received was = refl
step-forgets w run (DroppingEnd a held frame) reply.Done received was = refl
step-forgets w run (DiscardingHeld held frame) reply.Done received was = refl
step-forgets w run (ClosingOutput held None) reply.Done received was = finishing-forgets run.broken w.chunked run held
step-forgets w run (ClosingOutput held (Some f)) reply.Done received was = refl
step-forgets w run (DroppingFrame f held) reply.Done received was = finishing-forgets run.broken w.chunked run held
step-forgets w run (MakingEnd None) (reply.Agg n) received was = refl
step-forgets w run (MakingEnd (Some x)) (reply.Agg n) received was = refl
step-forgets w run (FillingEnd held size frame) (reply.Agg n) received was = refl
step-forgets w run (DroppingLast held chunk len frame) reply.Done received was = refl
step-forgets w run (DroppingLastFrame frame chunk len) reply.Done received was = refl
step-forgets w run (ClosingPipe write) reply.Done received was = refl
step-forgets w run (DiscardingJob j) reply.Done received was = refl
step-forgets w run Failing reply.Done received was = refl
step-forgets w run s r received was = refl

-- a run that holds the text after a reply held it before
pub keeps-back : (worker : ℕ) (w : Wanted) (y : Running) (r : Reply) (received : List ℕ)
    → keeps_text (after_reply worker w y r received) ≡ true → keeps_text y ≡ true
keeps-back worker w AwaitingWorker r received buffered = refl
keeps-back worker w (InProgress run s) r received buffered = by (keeps_text (InProgress run s)) refl
  where
    by : (b : Bool) → keeps_text (InProgress run s) ≡ b → keeps_text (InProgress run s) ≡ true
    by true is = is
    by false is =
        absurd (clash (keeps_text (after_step w run s r received)) buffered (step-forgets w run s r received is))
keeps-back worker w x r received buffered = absurd (cc (buffered))

-- only the call that makes the job depends on the text
pub call-text : (fd : ℕ) (w : Wanted) (y : Running) (script text : List ℕ) → (keeps_text y ≡ true → script ≡ text)
    → next_call (job_of w script) fd w y ≡ next_call (job_of w text) fd w y
call-text fd w (InProgress run (MakingJob f)) script text buffered =
    ap (λ (t : List ℕ). next_call (job_of w t) fd w (InProgress run (MakingJob f))) (buffered refl)
call-text fd w y script text buffered = refl
