use Rattle.flash_cgi.proofs.PipeEnd.{workers_stop}
use Rattle.flash_cgi.proofs.laws.workers_stop.Goals as goal

pub returns : goal.returns
returns c = workers_stop c.calls_serve_their_domain.ensures
