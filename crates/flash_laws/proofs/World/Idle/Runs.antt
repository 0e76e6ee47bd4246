-- The state of a client with a running script whose call would block while its worker is idle: its output queue is
-- full.
use Rattle.std.proofs.Common.{inl, inr, ◌≡◌, ◌≤◌, ℕ, ◌-◌, List, [], length, ap, refl, arith, Option, Some, false}
use Rattle.std.proofs.Common.{slice_get}
use Rattle.iol_core.specs.Text.{Text}
use Rattle.iol_core.specs.State.{State, descriptor, pipe_at}
use Rattle.iol_core.specs.declared.descriptors.Descriptor.TheVariants as on
use Rattle.iol_core.specs.declared.descriptors.Mode.TheVariants as modes
use Rattle.iol_core.specs.declared.limits.TheConstants.{MAX_QUEUE_BYTES}
use Rattle.iol_core.specs.declared.events.Call.TheVariants as call
use Rattle.iol_laws.specs.Order.{IsOrderly}
use Rattle.iol_proc.specs.declared.process_slot.ProcessSlot.{ProcessSlot}
use Rattle.flash_http.specs.Request.{serve, Wanted}
use Rattle.flash_laws.specs.Conn as conn
use Rattle.flash_laws.specs.Conn.{name_of, text_of, piece_end}
use Rattle.flash_cgi.specs.Expected.{Made}
use Rattle.flash_laws.specs.Workers.WorkerSet.{WorkerSet, IsFixedFor}
use Rattle.flash_laws.specs.World.Idle.{WouldWait}
use Rattle.flash_laws.specs.Run.Fits.{Progress, IsPart, sent_agg, HasStep, HasRun}
use Rattle.flash_laws.specs.Run.{worker_domain, job_pipe, in_phase, held_size, step_call, next_call, is_over}
use Rattle.flash_laws.specs.Answers.Scripts.{script_text, frame_of, place_in_frame, end_around}
use Rattle.flash_laws.specs.Site.ClientConsistency.{AreAtJobQueues}
use Rattle.flash_laws.specs.SiteContents.{SiteContents}
use Rattle.flash_laws.specs.Site.{server}
use Rattle.flash_laws.specs.Run.WorkerStates.{HasWorkerAt, AtJobQueue}
use Rattle.flash_laws.specs.World.Done.{IsHeldUp}
use Rattle.flash_laws.specs.declared.phase.Phase.{Phase}
use Rattle.flash_laws.specs.declared.phase.Phase.TheVariants as phase
use Rattle.flash_laws.specs.declared.script_run.TheConstants.{CHUNK_BYTES}
use Rattle.flash_laws.specs.declared.script_run.Run.{Run}
use Rattle.flash_laws.specs.declared.script_run.Step.{Step}
use Rattle.flash_laws.specs.declared.script_run.Step.TheVariants.{GivingPipe, MakingJob, WritingJob, DroppingJob}
use Rattle.flash_laws.specs.declared.script_run.Step.TheVariants.{MakingHead, SendingPart, ReadingOutput}
use Rattle.flash_laws.specs.declared.script_run.Step.TheVariants.{DroppingOutput, JoiningOutput, MakingFrame}
use Rattle.flash_laws.specs.declared.script_run.Step.TheVariants.{FillingFrame, DroppingHeld, DroppingEnd}
use Rattle.flash_laws.specs.declared.script_run.Step.TheVariants.{DiscardingHeld}
use Rattle.flash_laws.specs.declared.script_run.Step.TheVariants.{DroppingFrame, MakingEnd, FillingEnd, DroppingLast}
use Rattle.flash_laws.specs.declared.script_run.Step.TheVariants.{DroppingLastFrame}
use Rattle.flash_laws.specs.declared.script_run.Step.TheVariants.{ClosingPipe, DiscardingJob}
use Rattle.flash_laws.specs.declared.script_run.Running.{Running}
use Rattle.flash_laws.specs.declared.script_run.Running.TheVariants.{AwaitingWorker, InProgress, Finishing}
use Rattle.flash_laws.specs.declared.script_run.Running.TheVariants.{Disconnecting}
use Rattle.flash_laws.proofs.Lists.{clash}
use Rattle.flash_laws.proofs.World.AllLaws.{AllLaws}
use Rattle.flash_laws.proofs.World.Idle.Clients.{goes}

-- each worker meets its condition for idle moments
abbrev pub WorkersAreQuiescent : (worker_set : WorkerSet) → State → List (ProcessSlot worker_set.Worker) → Type 0
WorkersAreQuiescent worker_set m process_slots = (k : ℕ) (process_slot : ProcessSlot worker_set.Worker)
    → slice_get process_slots k ≡ Some process_slot
    → worker_set.quiescent 2 process_slot.by process_slot.process process_slot.last m

-- an empty queue is not full
not-full : (t : Text) → t ≡ [] → MAX_QUEUE_BYTES ≤ length t → ⊥
not-full t none full = (let e : length t ≡ 0 = ap (λ (u : Text). length u) none in omega (arith, e, full))

-- a phase that reads neither its connection nor a file
abbrev OnlySends : Phase → Type 0
OnlySends phase.Receiving = ⊥
OnlySends (phase.Reading f) = ⊥
OnlySends d = Unit {0}

only-part : (m : State) (part : List ℕ) (d : Phase) → IsPart m (sent_agg d) part → OnlySends d
only-part m part phase.Receiving is = is
only-part m part (phase.Reading f) is = is
only-part m part d is = tt

only-left : (d : Phase) → is_over (Finishing d) ≡ false → OnlySends d
only-left phase.Receiving going = absurd (cc (going))
only-left (phase.Reading f) going = absurd (cc (going))
only-left d going = tt

module _ (site_contents : SiteContents) (worker_set : WorkerSet) (laws : AllLaws worker_set) (m : State)
    (order : IsOrderly m) (fixed : IsFixedFor site_contents worker_set m) where
  -- if a write of a part of the response would block, the client is held up
  sending : (fd c : ℕ) (w : Wanted) (d : Phase) → descriptor m server fd ≡ Some (on.Connection c) → OnlySends d
      → WouldWait m server (conn.next_call fd (in_phase w d)) → IsHeldUp m c
  sending fd c w (phase.SendingWhole s) open_on may step =
      laws.the.reasons.conn_is_full m m server fd c s.agg open_on step
  sending fd c w (phase.SendingPiece s piece) open_on may step =
      laws.the.reasons.conn_is_full m m server fd c piece open_on step
  sending fd c w (phase.DroppingInput a) open_on may step = absurd (goes worker_set laws m (call.AggDrop a) refl step)
  sending fd c w phase.Opening open_on may step =
      absurd (goes worker_set laws m (call.OpenFile (name_of (serve w)) modes.Read) refl step)
  sending fd c w (phase.ClosingFile g k) open_on may step = absurd (goes worker_set laws m (call.Close g) refl step)
  sending fd c w (phase.Slicing a first last len) open_on may step =
      absurd (goes worker_set laws m (call.AggCut a first last) refl step)
  sending fd c w (phase.DroppingWhole a k) open_on may step = absurd (goes worker_set laws m (call.AggDrop a) refl step)
  sending fd c w (phase.MakingHead k) open_on may step =
      absurd (goes worker_set laws m (call.AggMake (text_of (serve w) k)) refl step)
  sending fd c w (phase.Joining a size body len) open_on may step =
      absurd (goes worker_set laws m (call.AggJoin a body) refl step)
  sending fd c w (phase.CuttingPiece s) open_on may step =
      absurd (goes worker_set laws m (call.AggCut s.agg s.from (piece_end s)) refl step)
  sending fd c w (phase.DroppingPiece s piece) open_on may step =
      absurd (goes worker_set laws m (call.AggDrop piece) refl step)
  sending fd c w (phase.DroppingSent a taken more) open_on may step =
      absurd (goes worker_set laws m (call.AggDrop a) refl step)
  sending fd c w (phase.AbortingPiece piece a more) open_on may step =
      absurd (goes worker_set laws m (call.AggDrop piece) refl step)
  sending fd c w (phase.Aborting a more) open_on may step = absurd (goes worker_set laws m (call.AggDrop a) refl step)
  sending fd c w phase.Disconnecting open_on may step = absurd (goes worker_set laws m (call.Close fd) refl step)
  sending fd c w phase.Closed open_on may step = absurd (goes worker_set laws m (call.Close fd) refl step)
  sending fd c w x open_on may step = absurd may

  module _ (process_slots : List (ProcessSlot worker_set.Worker))
      (job_queues : AreAtJobQueues worker_set m process_slots)
      (quiescent : WorkersAreQuiescent worker_set m process_slots) (made : Made) (o : Progress) (run : Run) where
    -- a write of a job never waits, since the job queue of a free worker is empty
    hands : (j f : ℕ) → AtJobQueue worker_set m process_slots run made o (WritingJob j f)
        → WouldWait m server (call.IolWrite (job_pipe run.worker) j) → ⊥
    hands j f job_queue step =
        let among = (job_queues.by run.worker job_queue.process_slot job_queue.sits).0 in
        let full = laws.the.reasons.pipe_is_full m m server (job_pipe run.worker) (worker_set.job_queue run.worker) j
        (job_queues.job_queues run.worker among) step in
        let none =
        laws.workers.none m (worker_set.job_queue run.worker) job_queue.process_slot job_queue.at_step.0.ready.free in
        not-full (pipe_at m (worker_set.job_queue run.worker)).queue none.empty full

    -- a read of output never waits: in idle moments the pipe of a worker with more output is full, and else its write
    -- end is closed
    receives : (held : conn.Following) (frame : Option ℕ) (n : ℕ)
        → AtJobQueue worker_set m process_slots run made o (ReadingOutput held frame)
        → WouldWait m server (call.IolRead run.from n) → ⊥
    receives held frame n job_queue step =
        let has = job_queue.at_step.has in
        let empty = laws.the.reasons.pipe_is_empty m m server run.from has.pipe n has.reads step in
        elim job_queue.at_step.delivers_text [
          | inl expected ↦ not-full (pipe_at m has.pipe).queue empty.0
              (laws.workers.full m (worker_set.job_queue run.worker) has.pipe job_queue.process_slot made
              job_queue.at_step.more order fixed.access expected
              (quiescent run.worker job_queue.process_slot job_queue.sits))
          | inr there ↦ clash (pipe_at m has.pipe).writing empty.1 there.closed
        ]

    by-step : (job : ℕ → List ℕ) (fd c : ℕ) (w : Wanted) (s : Step) → descriptor m server fd ≡ Some (on.Connection c)
        → HasStep job m w o run s
        → AtJobQueue worker_set m process_slots run made o s → WouldWait m server (step_call job fd w run s)
        → IsHeldUp m c
    by-step job fd c w (SendingPart d frame) open_on has job_queue step =
        sending fd c w d open_on (only-part m has.part d has.is_part) step
    by-step job fd c w (ReadingOutput held frame) open_on has job_queue step =
        absurd (receives held frame (CHUNK_BYTES - held_size held) job_queue step)
    by-step job fd c w (WritingJob j f) open_on has job_queue step = absurd (hands j f job_queue step)
    by-step job fd c w (GivingPipe write) open_on has job_queue step =
        absurd (goes worker_set laws m (call.GiveFd write (worker_domain run.worker)) refl step)
    by-step job fd c w (MakingJob f) open_on has job_queue step =
        absurd (goes worker_set laws m (call.AggMake (job f)) refl step)
    by-step job fd c w (DroppingJob j) open_on has job_queue step =
        absurd (goes worker_set laws m (call.AggDrop j) refl step)
    by-step job fd c w MakingHead open_on has job_queue step =
        absurd (goes worker_set laws m (call.AggMake (script_text w)) refl step)
    by-step job fd c w (DroppingOutput a frame) open_on has job_queue step =
        absurd (goes worker_set laws m (call.AggDrop a) refl step)
    by-step job fd c w (JoiningOutput held size piece len frame) open_on has job_queue step =
        absurd (goes worker_set laws m (call.AggJoin held piece) refl step)
    by-step job fd c w (MakingFrame held) open_on has job_queue step =
        absurd (goes worker_set laws m (call.AggMake (frame_of CHUNK_BYTES)) refl step)
    by-step job fd c w (FillingFrame held frame) open_on has job_queue step =
        absurd
        (goes worker_set laws m (call.AggReplace frame (place_in_frame CHUNK_BYTES) (place_in_frame CHUNK_BYTES) held)
        refl step)
    by-step job fd c w (DroppingHeld held chunk len frame) open_on has job_queue step =
        absurd (goes worker_set laws m (call.AggDrop held) refl step)
    by-step job fd c w (DroppingEnd a held frame) open_on has job_queue step =
        absurd (goes worker_set laws m (call.AggDrop a) refl step)
    by-step job fd c w (DiscardingHeld held frame) open_on has job_queue step =
        absurd (goes worker_set laws m (call.AggDrop held) refl step)
    by-step job fd c w (DroppingFrame frame held) open_on has job_queue step =
        absurd (goes worker_set laws m (call.AggDrop frame) refl step)
    by-step job fd c w (MakingEnd held) open_on has job_queue step =
        absurd (goes worker_set laws m (call.AggMake (end_around held)) refl step)
    by-step job fd c w (FillingEnd held size frame) open_on has job_queue step =
        absurd (goes worker_set laws m (call.AggReplace frame (place_in_frame size) (place_in_frame size) held) refl
        step)
    by-step job fd c w (DroppingLast held chunk len frame) open_on has job_queue step =
        absurd (goes worker_set laws m (call.AggDrop held) refl step)
    by-step job fd c w (DroppingLastFrame frame chunk len) open_on has job_queue step =
        absurd (goes worker_set laws m (call.AggDrop frame) refl step)
    by-step job fd c w (ClosingPipe write) open_on has job_queue step =
        absurd (goes worker_set laws m (call.Close write) refl step)
    by-step job fd c w (DiscardingJob j) open_on has job_queue step =
        absurd (goes worker_set laws m (call.AggDrop j) refl step)
    by-step job fd c w x open_on has job_queue step = absurd (goes worker_set laws m (call.Close run.from) refl step)

  -- a client with a run whose call would block is held up
  pub run-left : (fd c : ℕ) (w : Wanted) (job : ℕ → List ℕ) (y : Running)
      (process_slots : List (ProcessSlot worker_set.Worker)) (made : Made) (o : Progress)
      → AreAtJobQueues worker_set m process_slots → WorkersAreQuiescent worker_set m process_slots
      → descriptor m server fd ≡ Some (on.Connection c) → is_over y ≡ false
      → HasRun job m w o y → HasWorkerAt worker_set m process_slots made o y → WouldWait m server (next_call job fd w y)
      → IsHeldUp m c
  run-left fd c w job AwaitingWorker process_slots made o job_queues quiescent open_on going has job_queue step =
      absurd (goes worker_set laws m call.Pipe refl step)
  run-left fd c w job (InProgress run s) process_slots made o job_queues quiescent open_on going has job_queue step =
      by-step process_slots job_queues quiescent made o run job fd c w s open_on has.1 job_queue step
  run-left fd c w job (Finishing d) process_slots made o job_queues quiescent open_on going has job_queue step =
      sending fd c w d open_on (only-left d going) step
  run-left fd c w job Disconnecting process_slots made o job_queues quiescent open_on going has job_queue step =
      absurd (goes worker_set laws m (call.Close fd) refl step)
