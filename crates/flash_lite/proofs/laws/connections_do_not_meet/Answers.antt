use Rattle.flash_lite.specs.Setup.{workers_used}
use Rattle.flash_lite.specs.WorkerSet.{is_shown, is_work}
use Rattle.flash_lite.proofs.World.SiteWorld.{job_queues_apart}
use Rattle.std.proofs.Common.{rules}
use Rattle.flash_lite.proofs.laws.connections_do_not_meet.Goals as goal

pub returns : goal.returns
returns c = record {
  quiesces = search rules;
  first = λ s. c.world_law.ensures.first (workers_used s) (λ k. k) is_shown is_work (job_queues_apart s);
  step = λ s. c.world_law.ensures.step (workers_used s) (λ k. k) is_shown is_work (job_queues_apart s);
  run = λ s. c.world_law.ensures.run (workers_used s) (λ k. k) is_shown is_work (job_queues_apart s);
  answered = λ s. c.world_law.ensures.answered (workers_used s) (λ k. k) is_shown is_work (job_queues_apart s);
  whole = λ s. c.world_law.ensures.whole (workers_used s) (λ k. k) is_shown is_work (job_queues_apart s);
  idle = λ s. c.world_law.ensures.idle (workers_used s) (λ k. k) is_shown is_work (job_queues_apart s);
  host = λ s. c.world_law.ensures.host (workers_used s) (λ k. k) is_shown is_work (job_queues_apart s);
}
