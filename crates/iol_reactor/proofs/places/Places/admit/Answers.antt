use Rattle.std.proofs.Common.{arith, subst, sym}
use Rattle.iol_reactor.proofs.Served.{all_past}
use Rattle.iol_reactor.specs.Served.{IsEmpty}
use Rattle.iol_reactor.proofs.Served.{all_admit, new_followed, others_stay, released_at, set_rest}
use Rattle.iol_reactor.proofs.places.Places.admit.Goals as goal

pub invariant_of-self : goal.invariant_of-self
invariant_of-self g c = record {
  followed = all_admit g.P.Process.turns g.V.Service.starts g.V.Service.frames _ g.S.Socket.supplied g.S.Socket.accepted
      _ _ _ _ _ _ _ c.new.result c.args.self.now.worlds.links.apart
      c.args.self.now.worlds.links.came
      (others_stay g.P.Process.turns g.V.Service.starts g.V.Service.frames _ _ _ _ c.release.ensures.visits)
      (λ j other. set_rest _ _ _ _ c.release.ensures.table j other)
      (omega (arith, c.if-slot-len.true, c.len.ensures))
      (λ known. new_followed g.P.Process.turns g.V.Service.starts g.V.Service.frames _ g.S.Socket.supplied
      g.S.Socket.accepted _ _ c.new.result (released_at _ _ _ c.release.ensures.table) known
      (subst (λ k. IsEmpty (g.S.Socket.supplied k)) (sym c.new.ensures.socket) c.requires.supplied)
      (subst (λ k. IsEmpty (g.S.Socket.accepted k)) (sym c.new.ensures.socket) c.requires.accepted)
      c.new.ensures.phase c.new.ensures.bytes c.new.ensures.asked c.new.ensures.given c.new.ensures.unsent)
      c.args.self.now.followed;
}

pub invariant_of-self-else-slot-len : goal.invariant_of-self-else-slot-len
invariant_of-self-else-slot-len g c = record {
  followed = all_past g.P.Process.turns g.V.Service.starts g.V.Service.frames _ g.S.Socket.supplied g.S.Socket.accepted
      _ _ _ _ _ _ _ c.args.self.now.worlds.links.apart c.args.self.now.worlds.links.came
      (others_stay g.P.Process.turns g.V.Service.starts g.V.Service.frames _ _ _ _ c.release.ensures.visits)
      (λ j other. set_rest _ _ _ _ c.release.ensures.table j other)
      (omega (arith, c.if-slot-len.false, c.len.ensures)) c.args.self.now.followed;
}
