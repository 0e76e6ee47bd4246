use Rattle.iol_reactor.proofs.Clients.{connections_follow}
use Rattle.iol_reactor.proofs.history.connections_follow.Goals as goal

pub returns : goal.returns
returns g c = λ pool. connections_follow g.P.Process.turns g.V.Service.starts g.V.Service.frames pool
