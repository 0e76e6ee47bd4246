use Rattle.std.proofs.Common.{◌∙◌, ap, arith, sym}
use Rattle.iol_reactor.proofs.Served.{all_same, closing_followed, keeps_after, one_moves}
use Rattle.iol_reactor.proofs.places.Places.end_output.Goals as goal

pub invariant_of-self : goal.invariant_of-self
invariant_of-self g c = record {
  followed = one_moves g.P.Process.turns g.V.Service.starts g.V.Service.frames _ g.S.Socket.supplied g.S.Socket.accepted
      _ _ _ _ _ c.in-Some.client c.in-Some.client
      (omega (arith, c.if-slot-len.false, c.len.ensures)) c.index_mut.ensures.value c.in-Some.is
      (λ h. h)
      c.args.self.now.followed;
}

pub invariant_of-self-in-Flushing : goal.invariant_of-self-in-Flushing
invariant_of-self-in-Flushing g c = record {
  followed = one_moves g.P.Process.turns g.V.Service.starts g.V.Service.frames _ g.S.Socket.supplied g.S.Socket.accepted
      _ _ _ _ _ c.in-Some.client c.end_output.new.self
      (omega (arith, c.if-slot-len.false, c.len.ensures)) c.index_mut.ensures.value c.in-Some.is
      (λ h. closing_followed g.P.Process.turns g.V.Service.starts g.V.Service.frames _ g.S.Socket.supplied
      g.S.Socket.accepted _ _ c.in-Some.client c.end_output.new.self (sym c.phase.ensures ∙ c.in-Flushing.is)
      (c.is_flushed.ensures.0 (grind (arith, c.if-not-is_flushed.false)))
      (c.end_output.ensures.phase ∙ c.set_phase.ensures.phase)
      (keeps_after _ _ _ (ap (λ k. g.S.Socket.supplied k) c.set_phase.ensures.socket) c.end_output.ensures.came)
      (keeps_after _ _ _ (ap (λ k. g.S.Socket.accepted k) c.set_phase.ensures.socket) c.end_output.ensures.sent)
      (c.end_output.ensures.input ∙ c.set_phase.ensures.input) (c.end_output.ensures.output
      ∙ c.set_phase.ensures.output) (c.end_output.ensures.whole ∙ c.set_phase.ensures.whole) h)
      c.args.self.now.followed;
}

pub invariant_of-self-in_default : goal.invariant_of-self-in_default
invariant_of-self-in_default g c = record {
  followed = one_moves g.P.Process.turns g.V.Service.starts g.V.Service.frames _ g.S.Socket.supplied g.S.Socket.accepted
      _ _ _ _ _ c.in-Some.client c.in-Some.client
      (omega (arith, c.if-slot-len.false, c.len.ensures)) c.index_mut.ensures.value c.in-Some.is
      (λ h. h)
      c.args.self.now.followed;
}

pub invariant_of-self-in-None : goal.invariant_of-self-in-None
invariant_of-self-in-None g c = record {
  followed = all_same g.P.Process.turns g.V.Service.starts g.V.Service.frames _ g.S.Socket.supplied g.S.Socket.accepted
      _ _ _ _ _ (omega (arith, c.if-slot-len.false, c.len.ensures)) c.index_mut.ensures.value c.args.self.now.followed;
}
