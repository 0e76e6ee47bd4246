use Rattle.std.proofs.Common.{◌∙◌}
use Rattle.iol_reactor.proofs.Served.{all_hung_up, links_rest, others_goes}
use Rattle.iol_reactor.proofs.places.Places.hang_up.Goals as goal

pub invariant_of-self : goal.invariant_of-self
invariant_of-self g c = record {
  followed = all_hung_up g.P.Process.turns g.V.Service.starts g.V.Service.frames _ g.S.Socket.supplied
      g.S.Socket.accepted _ _ _ _ _ _ _ c.args.self.now.worlds.links.apart
      c.args.self.now.worlds.links.came
      (others_goes g.P.Process.turns g.V.Service.starts g.V.Service.frames _ _ _ _ _ _ _ c.hang_up.ensures.visits.1)
      (λ j _. links_rest _ _ c.hang_up.ensures.links j)
      (λ m at. c.phase.ensures.client m at ∙ c.in-Over.is) c.args.self.now.followed;
}
