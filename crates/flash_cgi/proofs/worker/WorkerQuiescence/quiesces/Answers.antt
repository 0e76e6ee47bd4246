use Rattle.flash_cgi.proofs.Waits.{worker_quiesces}
use Rattle.flash_cgi.proofs.worker.WorkerQuiescence.quiesces.Goals as goal

pub returns : goal.returns
returns c = worker_quiesces
