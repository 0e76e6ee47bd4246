use Rattle.std.proofs.Common.{◌∙◌}
use Rattle.iol_reactor.proofs.Served.{all_hung_up, others_stay, set_rest}
use Rattle.iol_reactor.proofs.places.Places.release.Goals as goal

pub invariant_of-self : goal.invariant_of-self
invariant_of-self g c = record {
  followed = all_hung_up g.P.Process.turns g.V.Service.starts g.V.Service.frames _ g.S.Socket.supplied
      g.S.Socket.accepted _ _ _ _ _ _ _ c.args.self.now.worlds.links.apart
      c.args.self.now.worlds.links.came
      (others_stay g.P.Process.turns g.V.Service.starts g.V.Service.frames _ _ _ _ c.release.ensures.visits)
      (λ j other. set_rest _ _ _ _ c.release.ensures.table j other)
      (λ m at. c.phase.ensures.client m at ∙ c.in-Over.is) c.args.self.now.followed;
}
