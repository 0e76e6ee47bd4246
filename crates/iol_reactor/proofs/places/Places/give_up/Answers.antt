use Rattle.std.proofs.Common.{ap, arith}
use Rattle.iol_reactor.proofs.Served.{all_same, grows_same, keeps_as, one_moves, over_followed}
use Rattle.iol_reactor.proofs.places.Places.give_up.Goals as goal

pub invariant_of-self : goal.invariant_of-self
invariant_of-self g c = record {
  followed = one_moves g.P.Process.turns g.V.Service.starts g.V.Service.frames _ g.S.Socket.supplied g.S.Socket.accepted
      _ _ _ _ _ c.in-Some.client c.give_up.new.client
      (omega (arith, c.if-slot-len.false, c.len.ensures)) c.index_mut.ensures.value c.in-Some.is
      (λ h. over_followed g.P.Process.turns g.V.Service.starts g.V.Service.frames _ g.S.Socket.supplied
      g.S.Socket.accepted _ _ _ _ c.in-Some.client c.give_up.new.client
      (grows_same _ _ (ap (λ k. g.S.Socket.supplied k) c.give_up.ensures.socket))
      (keeps_as _ _ (ap (λ k. g.S.Socket.accepted k) c.give_up.ensures.socket)) c.give_up.ensures.phase h)
      c.args.self.now.followed;
}

pub invariant_of-self-in-None : goal.invariant_of-self-in-None
invariant_of-self-in-None g c = record {
  followed = all_same g.P.Process.turns g.V.Service.starts g.V.Service.frames _ g.S.Socket.supplied g.S.Socket.accepted
      _ _ _ _ _ (omega (arith, c.if-slot-len.false, c.len.ensures)) c.index_mut.ensures.value c.args.self.now.followed;
}
