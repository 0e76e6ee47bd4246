-- A successful call of a run is not repeated.
use Rattle.std.proofs.Common.{◌≡◌, ℕ, ◌-◌, ◌≤◌, List, [], ◌∷◌, length, ap, refl, Option, Some, None, true, false}
use Rattle.std.proofs.Common.{Bool, if◌then◌else◌}
use Rattle.std.specs.Prelude.{nat_lt}
use Rattle.iol_core.specs.State.{State}
use Rattle.iol_core.specs.Run.{StepsTo}
use Rattle.iol_core.specs.declared.events.Event.TheVariants as event
use Rattle.iol_core.specs.declared.events.Reply.{Reply}
use Rattle.iol_core.specs.declared.events.Reply.TheVariants as reply
use Rattle.flash_http.specs.Request.{serve, Wanted}
use Rattle.flash_laws.specs.Conn as conn
use Rattle.flash_laws.specs.Conn.{Following, count_of}
use Rattle.flash_laws.specs.Conn.Fits.{is_closing}
use Rattle.flash_laws.specs.Run.Fits.{Progress, sent_agg, IsPart, IsSending, HasRun}
use Rattle.flash_laws.specs.Conn.OfferedBytes.{taken_of, may_repeat}
use Rattle.flash_laws.specs.Run.{both, worker_domain, job_pipe, held_size, in_phase, step_call, next_call, after_give}
use Rattle.flash_laws.specs.Run.{after_make, after_hand, after_release_job, after_head, after_sending, after_spill}
use Rattle.flash_laws.specs.Run.{after_gather, after_frame, after_wrap, after_trim, after_ended, after_release_held}
use Rattle.flash_laws.specs.Run.{after_wrap_last, after_trim_last, after_return, after_lapse, after_output, after_stop}
use Rattle.flash_laws.specs.Run.{after_release_frame, after_last, after_unwrap, after_fail, filled, holding, on_output}
use Rattle.flash_laws.specs.Run.{finishing, stopped, ending, after_step, after_reply, is_left, is_over}
use Rattle.flash_laws.specs.Answers.Scripts.{script_text, frame_of, place_in_frame, end_around}
use Rattle.flash_laws.specs.Site.{server}
use Rattle.flash_laws.specs.declared.phase.Phase.{Phase}
use Rattle.flash_laws.specs.declared.phase.Phase.TheVariants as phase
use Rattle.flash_laws.specs.declared.script_run.TheConstants.{CHUNK_BYTES}
use Rattle.flash_laws.specs.declared.script_run.Run.{Run}
use Rattle.flash_laws.specs.declared.script_run.Step.{Step}
use Rattle.flash_laws.specs.declared.script_run.Step.TheVariants.{GivingPipe, MakingJob, WritingJob, DroppingJob}
use Rattle.flash_laws.specs.declared.script_run.Step.TheVariants.{MakingHead, SendingPart, ReadingOutput}
use Rattle.flash_laws.specs.declared.script_run.Step.TheVariants.{DroppingOutput, JoiningOutput, MakingFrame}
use Rattle.flash_laws.specs.declared.script_run.Step.TheVariants.{FillingFrame, DroppingHeld, DroppingEnd}
use Rattle.flash_laws.specs.declared.script_run.Step.TheVariants.{DiscardingHeld}
use Rattle.flash_laws.specs.declared.script_run.Step.TheVariants.{ClosingOutput, DroppingFrame, MakingEnd, FillingEnd}
use Rattle.flash_laws.specs.declared.script_run.Step.TheVariants.{DroppingLast, DroppingLastFrame}
use Rattle.flash_laws.specs.declared.script_run.Step.TheVariants.{ClosingPipe, DiscardingJob, Failing}
use Rattle.flash_laws.specs.declared.script_run.Running.{Running}
use Rattle.flash_laws.specs.declared.script_run.Running.TheVariants.{AwaitingWorker, InProgress, Finishing}
use Rattle.flash_laws.specs.declared.script_run.Running.TheVariants.{Disconnecting}
use Rattle.flash_laws.proofs.Conn.DoneCalls.{moved}
use Rattle.flash_laws.proofs.Conn.Repeats.{drops, closes, makes, joins, replaces, reads, gives, writes, pipes}
use Rattle.flash_laws.proofs.Run.Rest.{is-rest}
use Rattle.flash_laws.proofs.Lists.{not-false}

-- the phase of a run that sends
abbrev phase_of : Running → Phase
phase_of (InProgress run (SendingPart d frame)) = d
phase_of (Finishing d) = d
phase_of x = phase.Closed

-- ---- a part, or the rest

sent_phase : (m n : State) (w : Wanted) (fd : ℕ) (expected : List ℕ) (d : Phase) (r : Reply) (received : List ℕ)
    → IsSending m expected d
    → StepsTo m (event.Call server (conn.next_call fd (in_phase w d))) r n
    → (conn.after_reply (in_phase w d) r received).phase ≡ d
    → may_repeat (conn.next_call fd (in_phase w d)) r ≡ true
sent_phase m n w fd expected d r received is step same =
    moved m n fd [] (serve w) d r received (open-yet d is) step same
  where
    open-yet : (d : Phase) → IsSending m expected d → is_closing d ≡ false
    open-yet phase.Disconnecting is = absurd is.0
    open-yet phase.Closed is = absurd is.0
    open-yet d is = refl

sending : (m n : State) (w : Wanted) (fd : ℕ) (expected : List ℕ) (run : Run) (d : Phase) (frame : Option ℕ) (r : Reply)
    → IsPart m (sent_agg d) expected → taken_of d ≤ length expected
    → StepsTo m (event.Call server (conn.next_call fd (in_phase w d))) r n
    → after_sending run d frame r ≡ InProgress run (SendingPart d frame)
    → may_repeat (conn.next_call fd (in_phase w d)) r ≡ true
sending m n w fd expected run (phase.DroppingSent a taken None) frame r is within step same =
    drops m n (InProgress run (SendingPart (phase.DroppingSent a taken None) frame))
    (λ z. after_sending run (phase.DroppingSent a taken None) frame z) a r step (λ e. cc (e)) same
sending m n w fd expected run (phase.Aborting a None) frame r is within step same =
    drops m n (InProgress run (SendingPart (phase.Aborting a None) frame))
    (λ z. after_sending run (phase.Aborting a None) frame z) a r
    step (λ e. cc (e)) same
sending m n w fd expected run (phase.SendingWhole s) frame r is within step same =
    sent_phase m n w fd expected (phase.SendingWhole s) r [] (is, within) step
    (ap (λ (z : Running). phase_of z) same)
sending m n w fd expected run (phase.CuttingPiece s) frame r is within step same =
    sent_phase m n w fd expected (phase.CuttingPiece s) r [] (is, within) step
    (ap (λ (z : Running). phase_of z) same)
sending m n w fd expected run (phase.SendingPiece s piece) frame r is within step same =
    sent_phase m n w fd expected (phase.SendingPiece s piece) r [] (is, within) step
    (ap (λ (z : Running). phase_of z) same)
sending m n w fd expected run (phase.DroppingPiece s piece) frame r is within step same =
    sent_phase m n w fd expected (phase.DroppingPiece s piece) r [] (is, within) step
    (ap (λ (z : Running). phase_of z) same)
sending m n w fd expected run (phase.AbortingPiece piece a None) frame r is within step same =
    sent_phase m n w fd expected (phase.AbortingPiece piece a None) r [] (is, within) step
    (ap (λ (z : Running). phase_of z) same)
sending m n w fd expected run d frame r is within step same = absurd is

-- ---- the steps of a run

module _ (run : Run) where
  holding-not : (held size : ℕ) (frame : Option ℕ) (a b c d : ℕ) (f : Option ℕ)
      → InProgress run (holding held size frame) ≡ InProgress run (JoiningOutput a b c d f) → ⊥
  holding-not held size frame a b c d f same = by (nat_lt size CHUNK_BYTES) frame same
    where
      by : (t : Bool) (frame : Option ℕ)
          → InProgress run (if t then ReadingOutput (Some (held, size)) frame else filled held frame)
          ≡ InProgress run (JoiningOutput a b c d f) → ⊥
      by true frame same = cc (same)
      by false None same = cc (same)
      by false (Some g) same = cc (same)

  on_output-not : (b c : Bool) (held : Following) (frame : Option ℕ) (a len : ℕ)
      → InProgress run (on_output b c held frame a len) ≡ InProgress run (ReadingOutput held frame) → ⊥
  on_output-not true c held frame a len same = cc (same)
  on_output-not false false held frame a len same = cc (same)
  on_output-not false true (Some x) frame a len same = cc (same)
  on_output-not false true None frame a len same = by (nat_lt len CHUNK_BYTES) frame same
    where
      by : (t : Bool) (frame : Option ℕ)
          → InProgress run (if t then ReadingOutput (Some (a, len)) frame else filled a frame)
          ≡ InProgress run (ReadingOutput None frame) → ⊥
      by true frame same = cc (same)
      by false None same = cc (same)
      by false (Some f) same = cc (same)

  receives-not : (w : Wanted) (held : Following) (frame : Option ℕ) (received : List ℕ) (k : ℕ)
      → after_output w run held frame (reply.Agg k) received ≡ InProgress run (ReadingOutput held frame) → ⊥
  receives-not w held frame [] k same = cc (same)
  receives-not w held frame (b ∷ received) k same =
      on_output-not run.broken w.chunked held frame k (count_of (b ∷ received)) same

  finishing-not : (b c : Bool) (held : Following) (s : Step)
      → ((x : Following) → InProgress run (MakingEnd x) ≡ InProgress run s → ⊥)
      → finishing b c run held ≡ InProgress run s → ⊥
  finishing-not false true held s differs same = differs held same
  finishing-not false false held s differs same = cc (same)
  finishing-not true c held s differs same = cc (same)

  stopped-not : (w : Wanted) (held : Following) (frame : Option ℕ)
      → stopped w run held frame ≡ InProgress run (ClosingOutput held frame) → ⊥
  stopped-not w held None same = finishing-not run.broken w.chunked held (ClosingOutput held None) (λ x e. cc (e)) same
  stopped-not w held (Some f) same = cc (same)

  ending-not : (held : Following) (k len : ℕ) → ending run held k len ≡ InProgress run (MakingEnd held) → ⊥
  ending-not None k len same = cc (same)
  ending-not (Some x) k len same = cc (same)

  module _ (job : ℕ → List ℕ) (m n : State) (fd : ℕ) (w : Wanted) (o : Progress) where
    steps : (s : Step) (r : Reply) (received : List ℕ) → HasRun job m w o (InProgress run s)
        → StepsTo m (event.Call server (step_call job fd w run s)) r n
        → after_step w run s r received ≡ InProgress run s → may_repeat (step_call job fd w run s) r ≡ true
    steps (GivingPipe write) r received has step same =
        gives m n (InProgress run (GivingPipe write)) (λ z. InProgress run (after_give write z)) write
        (worker_domain run.worker) r step
        (λ k e. cc (e)) same
    steps (MakingJob f) r received has step same =
        makes m n (InProgress run (MakingJob f)) (λ z. InProgress run (after_make f z)) (job f) r step (λ k e. cc (e))
        same
    steps (WritingJob j f) r received has step same =
        writes m n (InProgress run (WritingJob j f)) (λ z. InProgress run (after_hand j f z)) (job_pipe run.worker) j r
        step
        (λ k e. cc (e)) (λ e. cc (e)) same
    steps (DroppingJob j) r received has step same =
        drops m n (InProgress run (DroppingJob j)) (λ z. InProgress run (after_release_job j z)) j r step (λ e. cc (e))
        same
    steps MakingHead r received has step same =
        makes m n (InProgress run MakingHead) (λ z. InProgress run (after_head z received)) (script_text w) r step
        (λ k e. cc (e)) same
    steps (SendingPart d frame) r received has step same =
        sending m n w fd has.1.part run d frame r has.1.is_part has.1.within step same
    steps (ReadingOutput held frame) r received has step same =
        reads m n (InProgress run (ReadingOutput held frame)) (λ z. after_output w run held frame z received) run.from
        (CHUNK_BYTES - held_size held) r step (receives-not w held frame received) same
    steps (DroppingOutput a frame) r received has step same =
        drops m n (InProgress run (DroppingOutput a frame)) (λ z. InProgress run (after_spill a frame z)) a r step
        (λ e. cc (e)) same
    steps (JoiningOutput held size piece len frame) r received has step same =
        joins m n (InProgress run (JoiningOutput held size piece len frame))
        (λ z. InProgress run (after_gather held size piece len frame z)) held piece r step
        (λ k. holding-not k (both size len) frame held size piece len frame) same
    steps (MakingFrame held) r received has step same =
        makes m n (InProgress run (MakingFrame held)) (λ z. InProgress run (after_frame held z)) (frame_of CHUNK_BYTES)
        r step
        (λ k e. cc (e)) same
    steps (FillingFrame held frame) r received has step same =
        replaces m n (InProgress run (FillingFrame held frame)) (λ z. InProgress run (after_wrap held frame z received))
        frame
        (place_in_frame CHUNK_BYTES) (place_in_frame CHUNK_BYTES) held r step (λ k e. cc (e)) same
    steps (DroppingHeld held chunk len frame) r received has step same =
        drops m n (InProgress run (DroppingHeld held chunk len frame))
        (λ z. InProgress run (after_trim held chunk len frame z)) held r
        step (λ e. cc (e)) same
    steps (DroppingEnd a held frame) r received has step same =
        drops m n (InProgress run (DroppingEnd a held frame)) (λ z. InProgress run (after_ended a held frame z)) a r
        step (λ e. cc (e))
        same
    steps (DiscardingHeld held frame) r received has step same =
        drops m n (InProgress run (DiscardingHeld held frame)) (λ z. InProgress run (after_release_held held frame z))
        held r step
        (λ e. cc (e)) same
    steps (ClosingOutput held frame) r received has step same =
        closes m n (InProgress run (ClosingOutput held frame)) (λ z. after_stop w run held frame z) run.from r step
        (stopped-not w held frame) same
    steps (DroppingFrame f held) r received has step same =
        drops m n (InProgress run (DroppingFrame f held)) (λ z. after_release_frame w run f held z) f r step
        (finishing-not run.broken w.chunked held (DroppingFrame f held) (λ x e. cc (e))) same
    steps (MakingEnd held) r received has step same =
        makes m n (InProgress run (MakingEnd held)) (λ z. after_last run held z received) (end_around held) r step
        (λ k. ending-not held k (count_of received)) same
    steps (FillingEnd held size frame) r received has step same =
        replaces m n (InProgress run (FillingEnd held size frame))
        (λ z. InProgress run (after_wrap_last held size frame z received))
        frame (place_in_frame size) (place_in_frame size) held r step (λ k e. cc (e)) same
    steps (DroppingLast held chunk len frame) r received has step same =
        drops m n (InProgress run (DroppingLast held chunk len frame))
        (λ z. InProgress run (after_trim_last held chunk len frame z))
        held r step (λ e. cc (e)) same
    steps (DroppingLastFrame frame chunk len) r received has step same =
        drops m n (InProgress run (DroppingLastFrame frame chunk len)) (λ z. after_unwrap run frame chunk len z) frame r
        step
        (λ e. cc (e)) same
    steps (ClosingPipe write) r received has step same =
        closes m n (InProgress run (ClosingPipe write)) (λ z. InProgress run (after_return write z)) write r step
        (λ e. cc (e)) same
    steps (DiscardingJob j) r received has step same =
        drops m n (InProgress run (DiscardingJob j)) (λ z. InProgress run (after_lapse j z)) j r step (λ e. cc (e)) same
    steps Failing r received has step same =
        closes m n (InProgress run Failing) (λ z. after_fail run z) run.from r step (λ e. cc (e)) same

pub moves : (job : ℕ → List ℕ) (m n : State) (fd worker : ℕ) (w : Wanted) (x : Running) (r : Reply) (received : List ℕ)
    (o : Progress)
    → is_over x ≡ false → HasRun job m w o x → StepsTo m (event.Call server (next_call job fd w x)) r n
    → after_reply worker w x r received ≡ x → may_repeat (next_call job fd w x) r ≡ true
moves job m n fd worker w AwaitingWorker r received o going has step same =
    pipes m n AwaitingWorker (λ z. after_reply worker w AwaitingWorker z received) r step (λ k l e. cc (e)) same
moves job m n fd worker w (InProgress run s) r received o going has step same =
    steps run job m n fd w o s r received has step same
moves job m n fd worker w (Finishing d) r received o going has step same =
    let h = is-rest m w o d (not-false (is_left d) going) has in
    sent_phase m n w fd h.expected d r received h.sends step (ap (λ (z : Running). phase_of z) same)
moves job m n fd worker w Disconnecting r received o going has step same = absurd (cc (going))
