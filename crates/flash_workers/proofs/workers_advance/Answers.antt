use Rattle.flash_workers.proofs.Advance.{workers_advance}
use Rattle.flash_workers.proofs.workers_advance.Goals as goal

pub returns : goal.returns
returns c = workers_advance c.each_step_leaves_the_rest.ensures c.calls_serve_their_domain.ensures
