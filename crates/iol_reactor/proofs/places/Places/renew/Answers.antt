use Rattle.iol_reactor.proofs.Served.{all_stay, table_rest}
use Rattle.iol_reactor.proofs.places.Places.renew.Goals as goal

pub invariant_of-self : goal.invariant_of-self
invariant_of-self g c = record {
  followed = all_stay g.P.Process.turns g.V.Service.starts g.V.Service.frames _ g.S.Socket.supplied g.S.Socket.accepted
      _ _ _ _ _ _ c.args.self.now.worlds.links.came c.renew.ensures.visits
      (λ j. table_rest _ _ c.renew.ensures.table j) c.args.self.now.followed;
}
