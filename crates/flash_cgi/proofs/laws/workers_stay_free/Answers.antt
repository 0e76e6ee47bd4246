use Rattle.flash_cgi.proofs.Free.{workers_stay_free}
use Rattle.flash_cgi.proofs.laws.workers_stay_free.Goals as goal

pub returns : goal.returns
returns c = workers_stay_free c.calls_serve_their_domain.ensures
