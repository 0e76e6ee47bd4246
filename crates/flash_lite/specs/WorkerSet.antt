-- The workers of a site, in the terms of the law over whole worlds.
use Rattle.std.specs.Prelude.{ℕ, ◌==◌, ◌||◌, Bool}
use Rattle.flash_cgi.specs.declared.worker.Worker.{Worker}
use Rattle.flash_laws.specs.Workers.WorkerSet.{WorkerSet}
use Rattle.flash_laws.specs.Workers.{IsExpectedOf, IsFreeFor}
use Rattle.flash_lite.specs.Setup.{workers_used}
use Rattle.flash_lite.specs.Workers.{worker_quiescent, worker_turns}
use Rattle.flash_lite.specs.declared.site.Site.{Site}

-- pool 3, `work`, the pool of jobs
abbrev pub is_work : (pool : ℕ) → Bool
is_work pool = pool == 3

-- and pool 1, `site`: the output of a script is in these two
abbrev pub is_shown : (pool : ℕ) → Bool
is_shown pool = (pool == 1) || is_work pool

-- Worker k reads its jobs from pipe k. A site without scripts has no workers.
abbrev pub worker_set_of : Site → WorkerSet
worker_set_of s = record {
  Worker = Worker;
  turns = worker_turns;
  quiescent = worker_quiescent;
  count = workers_used s;
  job_queue = λ k. k;
  pools = is_shown;
  jobs = is_work;
  Free = IsFreeFor is_shown;
  Expected = IsExpectedOf is_shown;
}
