-- The progress of a client's script: the state of its worker, and the output that was read.
use Rattle.std.specs.Prelude.{◌≡◌, ◌≢◌, ◌<◌, ℕ, Bool, true, false, List, ◌++◌, Some, slice_get, IsTrue, IsFalse, ⊤}
use Rattle.iol_core.specs.State.{State, descriptor, text, pipe_at, new_pipe}
use Rattle.iol_core.specs.declared.descriptors.Descriptor.TheVariants as on
use Rattle.iol_laws.specs.Sources.{lie_in}
use Rattle.iol_proc.specs.declared.process_slot.ProcessSlot.{ProcessSlot}
use Rattle.flash_cgi.specs.Expected.{Made, text_of}
use Rattle.flash_laws.specs.Workers.WorkerSet.{WorkerSet}
use Rattle.flash_laws.specs.Workers.DeliversText as puts
use Rattle.flash_laws.specs.Run.Fits.{Progress, Ran, Broken, NotRun}
use Rattle.flash_laws.specs.Run.OfferedBytes.{is_stopping}
use Rattle.flash_laws.specs.Site.{server}
use Rattle.flash_laws.specs.declared.script_run.Run.{Run}
use Rattle.flash_laws.specs.declared.script_run.Step.{Step}
use Rattle.flash_laws.specs.declared.script_run.Step.TheVariants.{GivingPipe, MakingJob, WritingJob, ClosingPipe}
use Rattle.flash_laws.specs.declared.script_run.Step.TheVariants.{DiscardingJob, Failing}
use Rattle.flash_laws.specs.declared.script_run.Running.{Running}
use Rattle.flash_laws.specs.declared.script_run.Running.TheVariants.{AwaitingWorker, InProgress}

-- the rest of this output after the bytes read; arbitrary once the response is aborted
abbrev pub IsToCome : Progress → (output more : List ℕ) → Type 0
IsToCome (Ran received ended past) output more = IsFalse ended × (output ≡ received ++ more)
IsToCome Broken output more = ⊤
IsToCome (NotRun status past) output more = ⊥

-- all of it was read, and its end
abbrev pub IsReceivedWhole : Progress → (output : List ℕ) → Type 0
IsReceivedWhole (Ran received ended past) output = IsTrue ended × (output ≡ received)
IsReceivedWhole Broken output = ⊤
IsReceivedWhole (NotRun status past) output = ⊥

-- whether the worker does not yet have the job
abbrev pub is_starting : Running → Bool
is_starting AwaitingWorker = true
is_starting (InProgress run (GivingPipe write)) = true
is_starting (InProgress run (MakingJob f)) = true
is_starting (InProgress run (WritingJob j f)) = true
is_starting y = false

module _ (worker_set : WorkerSet) where
  -- The pipe that the server reads, which is no job pipe.
  pub record HasPipeOf (m : State) (run : Run) : Type 0 where
    pub pipe : ℕ
    pub reads : descriptor m server run.from ≡ Some (on.ReadEnd pipe)
    pub apart : (k : ℕ) → k < worker_set.count → worker_set.job_queue k ≢ pipe

  -- the worker is free, and the pipe is empty
  pub record IsReadyFor (m : State) (process_slot : ProcessSlot worker_set.Worker) (run : Run) : Type 0 where
    pub free : worker_set.Free m (worker_set.job_queue run.worker) process_slot
    pub has : HasPipeOf m run
    pub new : pipe_at m has.pipe ≡ new_pipe

  -- the same, and it has the write end
  pub record IsGiven (m : State) (process_slot : ProcessSlot worker_set.Worker) (run : Run) (fd : ℕ) : Type 0 where
    pub ready : IsReadyFor m process_slot run
    pub writes : descriptor m process_slot.by fd ≡ Some (on.WriteEnd ready.has.pipe)

  -- it has the job, and its further output is the rest
  pub record IsDelivering (m : State) (process_slot : ProcessSlot worker_set.Worker) (run : Run) (made : Made)
      (o : Progress) : Type 0 where
    pub has : HasPipeOf m run
    pub more : List ℕ
    pub delivers_text : puts.DeliversText worker_set.turns worker_set.pools worker_set.Free worker_set.Expected m
        (worker_set.job_queue run.worker) has.pipe process_slot made more
    pub to_come : IsToCome o (text_of made) more

  -- it is free again, and all was read
  pub record HasDelivered (m : State) (process_slot : ProcessSlot worker_set.Worker) (run : Run) (made : Made)
      (o : Progress) : Type 0 where
    pub free : worker_set.Free m (worker_set.job_queue run.worker) process_slot
    pub whole : IsReceivedWhole o (text_of made)

  abbrev pub OutputFrom : (stops : Bool) → State → ProcessSlot worker_set.Worker → Run → (made : Made) → Progress
      → Type 0
  OutputFrom true m process_slot run made o = HasDelivered m process_slot run made o
  OutputFrom false m process_slot run made o = IsDelivering m process_slot run made o

  -- The state of the worker in this process slot at a step of a run. The steps after a failed handover of the pipe or
  -- the job are impossible.
  abbrev pub IsAtStep : State → ProcessSlot worker_set.Worker → Run → (made : Made) → Progress → Step → Type 0
  IsAtStep m process_slot run made o (GivingPipe write) = IsReadyFor m process_slot run
  IsAtStep m process_slot run made o (MakingJob f) = IsGiven m process_slot run f
  IsAtStep m process_slot run made o (WritingJob j f) =
      IsGiven m process_slot run f × IsTrue (lie_in worker_set.jobs (text m server j))
  IsAtStep m process_slot run made o (ClosingPipe write) = ⊥
  IsAtStep m process_slot run made o (DiscardingJob j) = ⊥
  IsAtStep m process_slot run made o Failing = ⊥
  IsAtStep m process_slot run made o step = OutputFrom (is_stopping (InProgress run step)) m process_slot run made o

  -- the worker of a run, and its state
  pub record AtJobQueue (m : State) (process_slots : List (ProcessSlot worker_set.Worker)) (run : Run) (made : Made)
      (o : Progress)
      (step : Step) : Type 0 where
    pub process_slot : ProcessSlot worker_set.Worker
    pub sits : slice_get process_slots run.worker ≡ Some process_slot
    pub at_step : IsAtStep m process_slot run made o step

  -- the same for a run, if it has a worker
  abbrev pub HasWorkerAt : State → (process_slots : List (ProcessSlot worker_set.Worker)) → (made : Made) → Progress
      → Running → Type 0
  HasWorkerAt m process_slots made o (InProgress run step) = AtJobQueue m process_slots run made o step
  HasWorkerAt m process_slots made o y = ⊤
