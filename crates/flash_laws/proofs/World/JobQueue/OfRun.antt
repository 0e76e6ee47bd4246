-- The worker of a running script, over the server's own call for it: its objects, and when it is free again.
use Rattle.std.proofs.Common.{◌≡◌, ◌≢◌, ◌<◌, ℕ, List, refl, sym, subst, Some, true, false, slice_get}
use Rattle.iol_core.specs.State.{State, descriptor, pipe_at}
use Rattle.iol_core.specs.Run.{StepsTo}
use Rattle.iol_core.specs.declared.descriptors.Descriptor.TheVariants as on
use Rattle.iol_core.specs.declared.events.Event.TheVariants as event
use Rattle.iol_core.specs.declared.events.Reply.{Reply}
use Rattle.iol_laws.specs.Frame.{Leaves}
use Rattle.iol_laws.specs.Order.{IsOrderly}
use Rattle.iol_proc.specs.declared.process_slot.ProcessSlot.{ProcessSlot}
use Rattle.flash_http.specs.Request.{Wanted}
use Rattle.flash_cgi.specs.Expected.{Made, text_of}
use Rattle.flash_cgi.specs.Output.{Outcome}
use Rattle.flash_laws.specs.Client.{Client, job_of}
use Rattle.flash_laws.specs.Client.Fits.{IsScript, made_of}
use Rattle.flash_laws.specs.Workers.WorkerSet.{WorkerSet, IsFixedFor}
use Rattle.flash_laws.specs.Conn.Fits.{Names}
use Rattle.flash_laws.specs.Run.Fits.{Progress, HasRun}
use Rattle.flash_laws.specs.Run.OfferedBytes.{Updates, is_failing}
use Rattle.flash_laws.specs.Run.{job_pipe, step_call, next_call, after_reply, after_step, is_over}
use Rattle.flash_laws.specs.Site.ClientConsistency.{AreAtJobQueues}
use Rattle.flash_laws.specs.SiteContents.{SiteContents}
use Rattle.flash_laws.specs.SiteContents.Expected.{outcomes_by}
use Rattle.flash_laws.specs.Site.{server}
use Rattle.flash_laws.specs.Run.WorkerStates.{HasWorkerAt, AtJobQueue, is_starting, IsDelivering, HasDelivered}
use Rattle.flash_laws.specs.Run.WorkerStates.{IsToCome}
use Rattle.flash_laws.specs.declared.script_run.Run.{Run}
use Rattle.flash_laws.specs.declared.script_run.Step.{Step}
use Rattle.flash_laws.specs.declared.script_run.Step.TheVariants.{GivingPipe, MakingJob, WritingJob, SendingPart}
use Rattle.flash_laws.specs.declared.script_run.Step.TheVariants.{ReadingOutput, DroppingEnd}
use Rattle.flash_laws.specs.declared.script_run.Step.TheVariants.{DiscardingHeld, ClosingOutput, DroppingFrame}
use Rattle.flash_laws.specs.declared.script_run.Step.TheVariants.{MakingEnd, FillingEnd, DroppingLast}
use Rattle.flash_laws.specs.declared.script_run.Step.TheVariants.{DroppingLastFrame, ClosingPipe, DiscardingJob}
use Rattle.flash_laws.specs.declared.script_run.Step.TheVariants.{Failing}
use Rattle.flash_laws.specs.declared.script_run.Running.{Running}
use Rattle.flash_laws.specs.declared.script_run.Running.TheVariants.{AwaitingWorker, InProgress, Finishing as Left}
use Rattle.flash_laws.specs.declared.script_run.Running.TheVariants.{Disconnecting}
use Rattle.flash_laws.proofs.Run.Rest.{part-sends}
use Rattle.flash_laws.proofs.Run.Parts.{no-position}
use Rattle.flash_laws.proofs.World.AllLaws.{AllLaws}
pub use Rattle.flash_laws.proofs.World.JobQueue.After.{JobQueueAfter}
use Rattle.flash_laws.proofs.World.JobQueue.After.{CutBy}
use Rattle.flash_laws.proofs.World.JobQueue.Calls.{TouchesNoPipe, Still, OwnCall, own_call, still, putting_on, put_on}
use Rattle.flash_laws.proofs.World.JobQueue.Fresh.{awaits, gives, makes, hands, not_lost}
use Rattle.flash_laws.proofs.World.JobQueue.Reads.{ReceivesNothing, part_to_come, part_touches_none, not_cut}
use Rattle.flash_laws.proofs.World.JobQueue.Reads.{steps_without_output}
use Rattle.flash_laws.proofs.World.JobQueue.Reads.{sending, receives}
use Rattle.flash_laws.proofs.World.JobQueue.Stops.{HasReceivedAll, apart_read, apart_write, shut_stays, last_steps}
use Rattle.flash_laws.proofs.World.JobQueue.Stops.{leaving}

module _ (site_contents : SiteContents) (worker_set : WorkerSet) (laws : AllLaws worker_set) where
  module _ (m n : State) (fd c worker : ℕ) (x : Client) (w : Wanted) (s : IsScript site_contents x w) (r : Reply)
      (received : List ℕ) (o after : Progress) (process_slots : List (ProcessSlot worker_set.Worker))
      (shown : List Outcome) (order : IsOrderly m) (now : IsOrderly n) (fixed : IsFixedFor site_contents worker_set m)
      (job_queues : AreAtJobQueues worker_set m process_slots)
      (open_on : descriptor m server fd ≡ Some (on.Connection c))
      (names : Names n r received) where
    abbrev job : ℕ → List ℕ
    job = job_of w s.text

    abbrev made : Made
    made = made_of w s.lines shown

    abbrev Done : Running → Type 0
    Done y = StepsTo m (event.Call server (next_call job fd w y)) r n

    abbrev After : Running → Type 0
    After y = JobQueueAfter worker_set m n c process_slots w made y (after_reply worker w y r received) o after

    own : (y : Running) → is_over y ≡ false → HasRun job m w o y → Done y
        → OwnCall site_contents worker_set m n (next_call job fd w y) r process_slots
    own y going has step = own_call site_contents worker_set m n fd c y (next_call job fd w y) r process_slots order
        fixed
        job_queues step ((laws.run_keeps job).alone m fd c w y o open_on going has)

    left : (y : Running) → Done y → Leaves m (event.Call server (next_call job fd w y)) n
    left y step = laws.the.steps.leaves m n (event.Call server (next_call job fd w y)) r step

    module _ (run : Run) where
      -- it is broken off only if the peer is gone
      cut_off : (step : Step) (process_slot : ProcessSlot worker_set.Worker) → HasRun job m w o (InProgress run step)
          → Done (InProgress run step) → IsDelivering worker_set m process_slot run made o
          → CutBy m c (InProgress run step) (after_step w run step r received)
      cut_off step process_slot has did was on gone =
          not_cut site_contents worker_set laws m n c process_slots w o after made run step process_slot was fixed.wide
          ((laws.runs job).breaks m n fd c worker w (InProgress run step) r received o open_on refl has did on gone)

      -- the steps that touch no pipe
      undisturbed : (step : Step) → TouchesNoPipe fd (step_call job fd w run step) → Done (InProgress run step)
          → Still m n
      undisturbed step touches_none did =
          still m fd c open_on n (step_call job fd w run step) (left (InProgress run step) did) touches_none

      putting : (step : Step) (process_slot : ProcessSlot worker_set.Worker)
          → slice_get process_slots run.worker ≡ Some process_slot → TouchesNoPipe fd (step_call job fd w run step)
          → HasRun job m w o (InProgress run step)
          → Done (InProgress run step) → (was : IsDelivering worker_set m process_slot run made o)
          → IsToCome after (text_of made) was.more → IsDelivering worker_set n process_slot run made after
      putting step process_slot sits touches_none has did was come =
          putting_on site_contents worker_set laws m n (step_call job fd w run step) r process_slots
          (own (InProgress run step) refl has did) run process_slot sits (undisturbed step touches_none did) made o
          after was
          come

      reading_on : (step : Step) (process_slot : ProcessSlot worker_set.Worker)
          → slice_get process_slots run.worker ≡ Some process_slot → ReceivesNothing step
          → TouchesNoPipe fd (step_call job fd w run step)
          → HasRun job m w o (InProgress run step) → Done (InProgress run step)
          → IsDelivering worker_set m process_slot run made o
          → after ≡ o → After (InProgress run step)
      reading_on step process_slot sits nothing touches_none has did was same =
          steps_without_output site_contents worker_set laws m n c process_slots w o after made run process_slot sits
          (putting step process_slot sits touches_none has did was
          (subst (λ (p : Progress). IsToCome p (text_of made) was.more) (sym same) was.to_come)) same step r
          received nothing (cut_off step process_slot has did was)

      ending : (step : Step) (process_slot : ProcessSlot worker_set.Worker)
          → slice_get process_slots run.worker ≡ Some process_slot → HasReceivedAll step
          → HasRun job m w o (InProgress run step) → Done (InProgress run step)
          → pipe_at n (worker_set.job_queue run.worker) ≡ pipe_at m (worker_set.job_queue run.worker)
          → HasDelivered worker_set m process_slot run made o → after ≡ o → After (InProgress run step)
      ending step process_slot sits all has did job_queue was same =
          last_steps site_contents worker_set laws m n c process_slots w o after made run process_slot sits
          (put_on site_contents worker_set laws m n (step_call job fd w run step) r process_slots
          (own (InProgress run step) refl has did) run process_slot sits job_queue made o after same was) same step r
          received all

      ending_undisturbed : (step : Step) (process_slot : ProcessSlot worker_set.Worker)
          → slice_get process_slots run.worker ≡ Some process_slot → HasReceivedAll step
          → TouchesNoPipe fd (step_call job fd w run step)
          → HasRun job m w o (InProgress run step) → Done (InProgress run step)
          → HasDelivered worker_set m process_slot run made o
          → after ≡ o → After (InProgress run step)
      ending_undisturbed step process_slot sits all touches_none has did was same =
          ending step process_slot sits all has did
          ((undisturbed step touches_none did).pipes (worker_set.job_queue run.worker)) was same

      -- a run with a free worker does not begin to fail
      buffered : (step : Step) (process_slot : ProcessSlot worker_set.Worker)
          → slice_get process_slots run.worker ≡ Some process_slot → is_failing (InProgress run step) ≡ false
          → HasRun job m w o (InProgress run step)
          → Done (InProgress run step) → worker_set.Free m (worker_set.job_queue run.worker) process_slot
          → is_failing (after_step w run step r received) ≡ true → ⊥
      buffered step process_slot sits going has did free fails =
          not_lost site_contents worker_set laws m n c process_slots w o after order job_queues run step process_slot
          sits free ((laws.runs job).fails m n fd worker w (InProgress run step) r received o fixed.site.lives has did
          going fails)

      running : (step : Step)
          → (is_starting (InProgress run step) ≡ true → shown ≡ outcomes_by site_contents.shows s.lines)
          → HasRun job m w o (InProgress run step) → AtJobQueue worker_set m process_slots run made o step
          → Done (InProgress run step) → Updates m (InProgress run step) r received o after
          → After (InProgress run step)
      running (GivingPipe write) fresh has job_queue did updates =
          gives site_contents worker_set laws m n c process_slots w o after made run write r job_queue.process_slot
          job_queue.sits job_queue.at_step has.1.0 (own (InProgress run (GivingPipe write)) refl has did)
          (buffered (GivingPipe write) job_queue.process_slot job_queue.sits refl has did job_queue.at_step.free)
          updates
      running (MakingJob f) fresh has job_queue did updates =
          makes site_contents worker_set laws m n c process_slots w o after made (job f) run f r job_queue.process_slot
          job_queue.sits job_queue.at_step (own (InProgress run (MakingJob f)) refl has did)
          (undisturbed (MakingJob f) tt did)
          updates
      running (WritingJob j f) fresh has job_queue did updates =
          hands site_contents worker_set laws m n c process_slots w o after x s shown (fresh refl) run f j
          job_queue.process_slot job_queue.sits job_queue.at_step.0 job_queue.at_step.1 has.1.1 r
          (own (InProgress run (WritingJob j f)) refl has did) stays from
          (buffered (WritingJob j f) job_queue.process_slot job_queue.sits refl has did job_queue.at_step.0.ready.free)
          has.1.2.1
          updates
        where
          writes : descriptor m server (job_pipe run.worker) ≡ Some (on.WriteEnd (worker_set.job_queue run.worker))
          writes = job_queues.job_queues run.worker (job_queues.by run.worker job_queue.process_slot job_queue.sits).0

          stays : (p : ℕ) → p ≢ worker_set.job_queue run.worker → pipe_at n p ≡ pipe_at m p
          stays p differ =
              (left (InProgress run (WritingJob j f)) did).pipes p
              (apart_write (descriptor m server (job_pipe run.worker)) (worker_set.job_queue run.worker) p writes
              (λ e. differ (sym e)))

          from : descriptor n server run.from ≡ Some (on.ReadEnd job_queue.at_step.0.ready.has.pipe)
          from =
              (left (InProgress run (WritingJob j f)) did).fds server run.from
              (on.ReadEnd job_queue.at_step.0.ready.has.pipe)
              job_queue.at_step.0.ready.has.reads
              (no-position m (job_pipe run.worker) run.from (on.WriteEnd (worker_set.job_queue run.worker)) writes refl)
      running (SendingPart d frame) fresh has job_queue did updates =
          sending site_contents worker_set laws m n c process_slots w o after made run job_queue.process_slot
          job_queue.sits
          (putting (SendingPart d frame) job_queue.process_slot job_queue.sits
          (part_touches_none m fd w has.1.part d (part-sends m has.1.part d has.1.is_part has.1.within)) has did
          job_queue.at_step
          (part_to_come m d r o after (text_of made) job_queue.at_step.more updates job_queue.at_step.to_come)) d frame
          r
          updates (cut_off (SendingPart d frame) job_queue.process_slot has did job_queue.at_step)
      running (ReadingOutput held frame) fresh has job_queue did updates =
          receives site_contents worker_set laws m n c process_slots w o after made run held frame
          job_queue.process_slot job_queue.sits job_queue.at_step ((laws.runs job).reads m w o run held frame has) r
          received
          (own (InProgress run (ReadingOutput held frame)) refl has did) names updates stays from
          (cut_off (ReadingOutput held frame) job_queue.process_slot has did job_queue.at_step)
        where
          stays : pipe_at n (worker_set.job_queue run.worker) ≡ pipe_at m (worker_set.job_queue run.worker)
          stays = (left (InProgress run (ReadingOutput held frame)) did).pipes (worker_set.job_queue run.worker)
              (apart_read (descriptor m server run.from) job_queue.at_step.has.pipe (worker_set.job_queue run.worker)
              job_queue.at_step.has.reads
              (λ e. job_queue.at_step.has.apart run.worker
              (job_queues.by run.worker job_queue.process_slot job_queue.sits).0 (sym e)))

          from : descriptor n server run.from ≡ Some (on.ReadEnd job_queue.at_step.has.pipe)
          from =
              (left (InProgress run (ReadingOutput held frame)) did).fds server run.from
              (on.ReadEnd job_queue.at_step.has.pipe)
              job_queue.at_step.has.reads
              (no-position m run.from run.from (on.ReadEnd job_queue.at_step.has.pipe) job_queue.at_step.has.reads refl)
      running (DroppingEnd a held frame) fresh has job_queue did updates =
          ending_undisturbed (DroppingEnd a held frame) job_queue.process_slot job_queue.sits tt tt has did
          job_queue.at_step
          updates
      running (DiscardingHeld held frame) fresh has job_queue did updates =
          ending_undisturbed (DiscardingHeld held frame) job_queue.process_slot job_queue.sits tt tt has did
          job_queue.at_step
          updates
      running (ClosingOutput held frame) fresh has job_queue did updates =
          ending (ClosingOutput held frame) job_queue.process_slot job_queue.sits tt has did
          (shut_stays site_contents worker_set laws m n c process_slots w o after run has.1.0.0 r job_queue.process_slot
          job_queue.sits (own (InProgress run (ClosingOutput held frame)) refl has did) has.1.0.1
          job_queue.at_step.free)
          job_queue.at_step updates
      running (DroppingFrame f held) fresh has job_queue did updates =
          ending_undisturbed (DroppingFrame f held) job_queue.process_slot job_queue.sits tt tt has did
          job_queue.at_step
          updates
      running (MakingEnd held) fresh has job_queue did updates =
          ending_undisturbed (MakingEnd held) job_queue.process_slot job_queue.sits tt tt has did job_queue.at_step
          updates
      running (FillingEnd held size frame) fresh has job_queue did updates =
          ending_undisturbed (FillingEnd held size frame) job_queue.process_slot job_queue.sits tt tt has did
          job_queue.at_step updates
      running (DroppingLast held chunk len frame) fresh has job_queue did updates =
          ending_undisturbed (DroppingLast held chunk len frame) job_queue.process_slot job_queue.sits tt tt has did
          job_queue.at_step updates
      running (DroppingLastFrame frame chunk len) fresh has job_queue did updates =
          ending_undisturbed (DroppingLastFrame frame chunk len) job_queue.process_slot job_queue.sits tt tt has did
          job_queue.at_step updates
      running (ClosingPipe write) fresh has job_queue did updates = absurd job_queue.at_step
      running (DiscardingJob j) fresh has job_queue did updates = absurd job_queue.at_step
      running Failing fresh has job_queue did updates = absurd job_queue.at_step
      running step fresh has job_queue did updates =
          reading_on step job_queue.process_slot job_queue.sits tt tt has did job_queue.at_step updates

    by_step : (y : Running) → is_over y ≡ false
        → (is_starting y ≡ true → shown ≡ outcomes_by site_contents.shows s.lines) → HasRun job m w o y
        → HasWorkerAt worker_set m process_slots made o y
        → (y ≡ AwaitingWorker → (worker < worker_set.count) × ((process_slot : ProcessSlot worker_set.Worker)
        → slice_get process_slots worker ≡ Some process_slot
        → worker_set.Free m (worker_set.job_queue worker) process_slot))
        → Done y → Updates m y r received o after → After y
    by_step AwaitingWorker going fresh has job_queue hired did updates =
        awaits site_contents worker_set laws m n c process_slots w o after made worker r
        (own AwaitingWorker refl has did) now
        (hired refl) updates
    by_step (InProgress run step) going fresh has job_queue hired did updates =
        running run step fresh has job_queue did updates
    by_step (Left d) going fresh has job_queue hired did updates =
        leaving site_contents worker_set laws m n c process_slots w o after made d r received updates
        (λ on gone. (laws.runs job).breaks m n fd c worker w (Left d) r received o open_on going has did on gone)
    by_step Disconnecting going fresh has job_queue hired did updates = absurd (cc (going))

  pub job_queue_step : (m n : State) (fd c worker : ℕ) (x : Client) (w : Wanted) (s : IsScript site_contents x w)
      (y : Running) (r : Reply)
      (received : List ℕ) (o after : Progress) (process_slots : List (ProcessSlot worker_set.Worker))
      (shown : List Outcome) → IsOrderly m → IsOrderly n
      → IsFixedFor site_contents worker_set m → AreAtJobQueues worker_set m process_slots
      → descriptor m server fd ≡ Some (on.Connection c)
      → is_over y ≡ false → (is_starting y ≡ true → shown ≡ outcomes_by site_contents.shows s.lines)
      → HasRun (job_of w s.text) m w o y → HasWorkerAt worker_set m process_slots (made_of w s.lines shown) o y
      → (y ≡ AwaitingWorker → (worker < worker_set.count)
      × ((process_slot : ProcessSlot worker_set.Worker) → slice_get process_slots worker ≡ Some process_slot
      → worker_set.Free m (worker_set.job_queue worker) process_slot))
      → StepsTo m (event.Call server (next_call (job_of w s.text) fd w y)) r n → Names n r received
      → Updates m y r received o after → HasRun (job_of w s.text) n w after (after_reply worker w y r received)
      → JobQueueAfter worker_set m n c process_slots w (made_of w s.lines shown) y (after_reply worker w y r received) o
      after
  job_queue_step m n fd c worker x w s y r received o after process_slots shown order now fixed job_queues open_on going
      fresh has job_queue hired did names updates later =
      by_step m n fd c worker x w s r received o after process_slots shown order now fixed job_queues open_on names y
      going fresh has job_queue hired did updates
