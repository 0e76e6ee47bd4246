use Rattle.iol_reactor.proofs.Served.{all_stay, links_rest}
use Rattle.iol_reactor.proofs.places.Places.is_over.Goals as goal

pub invariant_of-self : goal.invariant_of-self
invariant_of-self g c = record {
  followed = all_stay g.P.Process.turns g.V.Service.starts g.V.Service.frames _ g.S.Socket.supplied g.S.Socket.accepted
      _ _ _ _ _ _ c.args.self.now.worlds.links.came c.is_over.ensures.visits
      (λ j. links_rest _ _ c.is_over.ensures.links j) c.args.self.now.followed;
}
