use Rattle.flash_cgi.specs.Standstill.{HasWaited}
use Rattle.flash_cgi.specs.Works.{worker_turns}
use Rattle.flash_laws.specs.Workers.{IsExpectedOf, IsFreeFor}
use Rattle.flash_laws.proofs.World.JobQueue.Texts.{texts_are_delivered}
use Rattle.flash_laws.proofs.worker_laws.texts_are_delivered.Goals as goal

pub returns : goal.returns
returns c = λ pools. texts_are_delivered worker_turns HasWaited pools (IsFreeFor pools) (IsExpectedOf pools)
    (c.workers_run.ensures pools)
    c.calls_serve_their_domain.ensures c.labels_follow.ensures c.others_receive.ensures
