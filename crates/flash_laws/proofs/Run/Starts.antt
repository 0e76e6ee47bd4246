-- Once its worker has the job, a run does not start again.
use Rattle.std.proofs.Common.{◌≡◌, ℕ, List, [], ◌∷◌, refl, Option, Some, None, true, false, Bool, if◌then◌else◌}
use Rattle.std.specs.Prelude.{nat_lt}
use Rattle.iol_core.specs.declared.refusals.Refusal.TheVariants as no
use Rattle.iol_core.specs.declared.events.Reply.{Reply}
use Rattle.iol_core.specs.declared.events.Reply.TheVariants as reply
use Rattle.flash_http.specs.Request.{Wanted}
use Rattle.flash_laws.specs.Conn.{Following, count_of}
use Rattle.flash_laws.specs.Run.{after_reply, after_step, holding, on_output, filled, finishing, both}
use Rattle.flash_laws.specs.Run.WorkerStates.{is_starting}
use Rattle.flash_laws.specs.declared.phase.Phase.TheVariants as phase
use Rattle.flash_laws.specs.declared.script_run.TheConstants.{CHUNK_BYTES}
use Rattle.flash_laws.specs.declared.script_run.Run.{Run}
use Rattle.flash_laws.specs.declared.script_run.Step.{Step}
use Rattle.flash_laws.specs.declared.script_run.Step.TheVariants.{GivingPipe, MakingJob, WritingJob, DroppingJob}
use Rattle.flash_laws.specs.declared.script_run.Step.TheVariants.{MakingHead, SendingPart, ReadingOutput}
use Rattle.flash_laws.specs.declared.script_run.Step.TheVariants.{DroppingOutput, JoiningOutput, MakingFrame}
use Rattle.flash_laws.specs.declared.script_run.Step.TheVariants.{FillingFrame, DroppingHeld, DroppingEnd}
use Rattle.flash_laws.specs.declared.script_run.Step.TheVariants.{DiscardingHeld}
use Rattle.flash_laws.specs.declared.script_run.Step.TheVariants.{ClosingOutput, DroppingFrame, MakingEnd, FillingEnd}
use Rattle.flash_laws.specs.declared.script_run.Step.TheVariants.{DroppingLast, DroppingLastFrame}
use Rattle.flash_laws.specs.declared.script_run.Step.TheVariants.{ClosingPipe, DiscardingJob, Failing}
use Rattle.flash_laws.specs.declared.script_run.Running.{Running}
use Rattle.flash_laws.specs.declared.script_run.Running.TheVariants.{AwaitingWorker, InProgress}
use Rattle.flash_laws.proofs.Lists.{clash}

abbrev HasStarted : Running → Type 0
HasStarted z = is_starting z ≡ false

holding-started : (run : Run) (held size : ℕ) (frame : Option ℕ) → HasStarted (InProgress run (holding held size frame))
holding-started run held size frame = by (nat_lt size CHUNK_BYTES) frame
  where
    by : (t : Bool) (frame : Option ℕ)
        → HasStarted (InProgress run (if t then ReadingOutput (Some (held, size)) frame else filled held frame))
    by true frame = refl
    by false None = refl
    by false (Some f) = refl

on_output-started : (run : Run) (b c : Bool) (held : Following) (frame : Option ℕ) (a len : ℕ)
    → HasStarted (InProgress run (on_output b c held frame a len))
on_output-started run true c held frame a len = refl
on_output-started run false false held frame a len = refl
on_output-started run false true None frame a len = holding-started run a len frame
on_output-started run false true (Some x) frame a len = refl

finishing-started : (b c : Bool) (run : Run) (held : Following) → HasStarted (finishing b c run held)
finishing-started false true run held = refl
finishing-started false false run held = refl
finishing-started true c run held = refl

step-started : (w : Wanted) (run : Run) (s : Step) (r : Reply) (received : List ℕ)
    → is_starting (InProgress run s) ≡ false
    → HasStarted (after_step w run s r received)
step-started w run (GivingPipe write) r received was = absurd (cc (was))
step-started w run (MakingJob f) r received was = absurd (cc (was))
step-started w run (WritingJob j f) r received was = absurd (cc (was))
step-started w run (DroppingJob j) reply.Done received was = refl
step-started w run MakingHead (reply.Agg n) received was = refl
step-started w run (SendingPart (phase.DroppingSent a taken None) frame) reply.Done received was = refl
step-started w run (SendingPart (phase.Aborting a None) frame) reply.Done received was = refl
step-started w run (ReadingOutput held frame) (reply.Agg n) [] was = refl
step-started w run (ReadingOutput held frame) (reply.Agg n) (b ∷ received) was =
    on_output-started run run.broken w.chunked held frame n (count_of (b ∷ received))
step-started w run (ReadingOutput None frame) (reply.Refused (no.Denied p)) received was = refl
step-started w run (ReadingOutput (Some x) frame) (reply.Refused (no.Denied p)) received was = refl
step-started w run (DroppingOutput a frame) reply.Done received was = refl
step-started w run (JoiningOutput held size piece len frame) (reply.Agg n) received was =
    holding-started run n (both size len) frame
step-started w run (MakingFrame held) (reply.Agg n) received was = refl
step-started w run (FillingFrame held frame) (reply.Agg n) received was = refl
step-started w run (DroppingHeld held chunk len frame) reply.Done received was = refl
step-started w run (DroppingEnd a held frame) reply.Done received was = refl
step-started w run (DiscardingHeld held frame) reply.Done received was = refl
step-started w run (ClosingOutput held None) reply.Done received was = finishing-started run.broken w.chunked run held
step-started w run (ClosingOutput held (Some f)) reply.Done received was = refl
step-started w run (DroppingFrame f held) reply.Done received was = finishing-started run.broken w.chunked run held
step-started w run (MakingEnd None) (reply.Agg n) received was = refl
step-started w run (MakingEnd (Some x)) (reply.Agg n) received was = refl
step-started w run (FillingEnd held size frame) (reply.Agg n) received was = refl
step-started w run (DroppingLast held chunk len frame) reply.Done received was = refl
step-started w run (DroppingLastFrame frame chunk len) reply.Done received was = refl
step-started w run (ClosingPipe write) reply.Done received was = refl
step-started w run (DiscardingJob j) reply.Done received was = refl
step-started w run Failing reply.Done received was = refl
step-started w run s r received was = refl

-- a run that is starting after a reply was starting before
pub starts-back : (worker : ℕ) (w : Wanted) (y : Running) (r : Reply) (received : List ℕ)
    → is_starting (after_reply worker w y r received) ≡ true → is_starting y ≡ true
starts-back worker w AwaitingWorker r received starts = refl
starts-back worker w (InProgress run s) r received starts = by (is_starting (InProgress run s)) refl
  where
    by : (b : Bool) → is_starting (InProgress run s) ≡ b → is_starting (InProgress run s) ≡ true
    by true is = is
    by false is =
        absurd (clash (is_starting (after_step w run s r received)) starts (step-started w run s r received is))
starts-back worker w x r received starts = absurd (cc (starts))
