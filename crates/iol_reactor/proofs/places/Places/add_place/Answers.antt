use Rattle.iol_reactor.proofs.Served.{all_grown, all_stay, place_rest}
use Rattle.iol_reactor.proofs.places.Places.add_place.Goals as goal

pub invariant_of-self : goal.invariant_of-self
invariant_of-self g c = record {
  followed = all_stay g.P.Process.turns g.V.Service.starts g.V.Service.frames _ g.S.Socket.supplied g.S.Socket.accepted
      _ _ _ _ _ _ c.args.self.now.worlds.links.came c.add_place.ensures.visits
      (λ j. place_rest _ _ _ c.add_place.ensures.table c.add_place.ensures.err j) c.args.self.now.followed;
}

pub invariant_of-self-2 : goal.invariant_of-self-2
invariant_of-self-2 g c = record {
  followed = all_grown g.P.Process.turns g.V.Service.starts g.V.Service.frames _ g.S.Socket.supplied g.S.Socket.accepted
      _ _ _ _ _ c.push.ensures.items
      (all_stay g.P.Process.turns g.V.Service.starts g.V.Service.frames _ g.S.Socket.supplied g.S.Socket.accepted _ _
      _ _ _ _ c.args.self.now.worlds.links.came c.add_place.ensures.visits
      (λ j. place_rest _ _ _ c.add_place.ensures.table c.add_place.ensures.err j) c.args.self.now.followed);
}
