use Rattle.iol_reactor.proofs.Served.{known_found}
use Rattle.iol_reactor.proofs.places.Places.get.Goals as goal

pub returns-clause-history : goal.returns-clause-history
returns-clause-history g c =
    known_found g.P.Process.turns g.V.Service.starts g.V.Service.frames _ g.S.Socket.supplied g.S.Socket.accepted _ _ _
    _ _ _ c.client_at.ensures.place c.args.self.now.followed
