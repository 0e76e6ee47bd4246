use Rattle.std.proofs.Common.{◌∙◌, arith, sym}
use Rattle.iol_reactor.proofs.Served.{all_same, drained_followed, one_moves}
use Rattle.iol_reactor.proofs.places.Places.drop_input.Goals as goal

pub invariant_of-self : goal.invariant_of-self
invariant_of-self g c = record {
  followed = one_moves g.P.Process.turns g.V.Service.starts g.V.Service.frames _ g.S.Socket.supplied g.S.Socket.accepted
      _ _ _ _ _ c.in-Some.client c.in-Some.client
      (omega (arith, c.if-slot-len.false, c.len.ensures)) c.index_mut.ensures.value c.in-Some.is
      (λ h. h)
      c.args.self.now.followed;
}

pub invariant_of-self-in-Closing : goal.invariant_of-self-in-Closing
invariant_of-self-in-Closing g c = record {
  followed = one_moves g.P.Process.turns g.V.Service.starts g.V.Service.frames _ g.S.Socket.supplied g.S.Socket.accepted
      _ _ _ _ _ c.in-Some.client c.drop_input.new.self
      (omega (arith, c.if-slot-len.false, c.len.ensures)) c.index_mut.ensures.value c.in-Some.is
      (λ h. drained_followed g.P.Process.turns g.V.Service.starts g.V.Service.frames _ g.S.Socket.supplied
      g.S.Socket.accepted _ _ c.in-Some.client c.drop_input.new.self (sym c.phase.ensures ∙ c.in-Closing.is)
      (sym c.is_ended.ensures ∙ c.if-is_ended.false) c.drop_input.ensures.came c.drop_input.ensures.sent
      c.drop_input.ensures.phase c.drop_input.ensures.output c.drop_input.ensures.whole h)
      c.args.self.now.followed;
}

pub invariant_of-self-in_default : goal.invariant_of-self-in_default
invariant_of-self-in_default g c = record {
  followed = one_moves g.P.Process.turns g.V.Service.starts g.V.Service.frames _ g.S.Socket.supplied g.S.Socket.accepted
      _ _ _ _ _ c.in-Some.client c.in-Some.client
      (omega (arith, c.if-slot-len.false, c.len.ensures)) c.index_mut.ensures.value c.in-Some.is
      (λ h. h)
      c.args.self.now.followed;
}

pub invariant_of-self-in-None : goal.invariant_of-self-in-None
invariant_of-self-in-None g c = record {
  followed = all_same g.P.Process.turns g.V.Service.starts g.V.Service.frames _ g.S.Socket.supplied g.S.Socket.accepted
      _ _ _ _ _ (omega (arith, c.if-slot-len.false, c.len.ensures)) c.index_mut.ensures.value c.args.self.now.followed;
}
