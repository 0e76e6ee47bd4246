use Rattle.std.proofs.Common.{◌∙◌, refl, sym}
use Rattle.iol_reactor.proofs.Served.{all_connected}
use Rattle.iol_reactor.proofs.places.Places.connect.Goals as goal

pub invariant_of-self : goal.invariant_of-self
invariant_of-self g c = record {
  followed = all_connected g.P.Process.turns g.V.Service.starts g.V.Service.frames _ g.S.Socket.supplied
      g.S.Socket.accepted c.connect.result _ _ _ _ _ _ _ _ c.args.self.now.worlds.links.apart
      c.args.self.now.worlds.links.came
      c.connect.ensures.visits (sym c.has_link.ensures ∙ c.if-has_link.false) refl c.connect.ensures.begun
      c.connect.ensures.given c.connect.ensures.refused c.args.self.now.followed;
}
