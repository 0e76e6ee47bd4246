-- Sets of workers of workers of one kind, and statements about each set of workers.
use Rattle.std.specs.Prelude.{ℕ, Bool, List}
use Rattle.iol_core.specs.State.{State}
use Rattle.iol_proc.specs.Quiescence.{Claim}
use Rattle.iol_proc.specs.Turns.{TransitionRelation}
use Rattle.iol_proc.specs.declared.process_slot.ProcessSlot.{ProcessSlot}
use Rattle.flash_cgi.specs.Expected.{Made}
use Rattle.flash_laws.specs.Workers.WorkerSet.{WorkerSet}
use Rattle.flash_laws.specs.World.{JobQueuesAreApart}

module _ {W : Type 0} (turns : TransitionRelation W) (quiescent : Claim W) (free : (pools : ℕ → Bool) → State → (j : ℕ)
    → ProcessSlot W → Type 0)
    (expected : (pools : ℕ → Bool) → State → (j p : ℕ) → ProcessSlot W → Made → (text : List ℕ) → Type 0) where
  -- count workers with these job pipes, with their output in these pools, and their jobs in those
  abbrev pub worker_set_with : (count : ℕ) → (job_queue : ℕ → ℕ) → (pools jobs : ℕ → Bool) → WorkerSet
  worker_set_with count job_queue pools jobs = record {
    Worker = W;
    turns = turns;
    quiescent = quiescent;
    count = count;
    job_queue = job_queue;
    pools = pools;
    jobs = jobs;
    Free = free pools;
    Expected = expected pools;
  }

  -- a statement about each set of workers with distinct job pipes
  abbrev pub OfEach : (claim : WorkerSet → Type 0) → Type 0
  OfEach claim = (count : ℕ) (job_queue : ℕ → ℕ) (pools jobs : ℕ → Bool)
      → JobQueuesAreApart (worker_set_with count job_queue pools jobs)
      → claim (worker_set_with count job_queue pools jobs)

  -- the existence of such a set of workers
  pub record OfSome (claim : WorkerSet → Type 0) : Type 0 where
    pub count : ℕ
    pub job_queue : ℕ → ℕ
    pub pools : ℕ → Bool
    pub jobs : ℕ → Bool
    pub apart : JobQueuesAreApart (worker_set_with count job_queue pools jobs)
    pub holds : claim (worker_set_with count job_queue pools jobs)
