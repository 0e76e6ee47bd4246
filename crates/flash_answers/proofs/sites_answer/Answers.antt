use Rattle.flash_lite.specs.WorkerSet.{is_shown, is_work}
use Rattle.flash_lite.specs.Setup.{workers_used}
use Rattle.flash_lite.proofs.World.SiteWorld.{job_queues_apart}
use Rattle.flash_answers.proofs.Sites.{sites_answer}
use Rattle.flash_answers.proofs.sites_answer.Goals as goal

pub returns : goal.returns
returns c = sites_answer c.connections_do_not_meet.ensures.run c.hosted_is_right.ensures c.runs_are_fair.ensures.any
    (λ s. c.visits_are_answered.ensures (workers_used s) (λ k. k) is_shown is_work (job_queues_apart s))
