use Rattle.iol_reactor.proofs.Visits.{visits_continue}
use Rattle.iol_reactor.proofs.history.visits_continue.Goals as goal

pub returns : goal.returns
returns g c = visits_continue g.P.Process.turns
