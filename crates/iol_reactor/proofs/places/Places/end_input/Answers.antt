use Rattle.std.proofs.Common.{◌≡◌, ◌∙◌, arith, subst, sym, true}
use Rattle.iol_reactor.specs.Served.{is_free}
use Rattle.iol_reactor.proofs.Served.{all_same, at_place, ends_followed, one_moves}
use Rattle.iol_reactor.proofs.places.Places.end_input.Goals as goal

pub invariant_of-self : goal.invariant_of-self
invariant_of-self g c = record {
  followed = one_moves g.P.Process.turns g.V.Service.starts g.V.Service.frames _ g.S.Socket.supplied g.S.Socket.accepted
      _ _ _ _ _ c.in-Some.client c.in-Some.client
      (omega (arith, c.if-slot-len.false, c.len.ensures)) c.index_mut.ensures.value c.in-Some.is
      (λ h. h)
      c.args.self.now.followed;
}

pub invariant_of-self-then-not-is_ended : goal.invariant_of-self-then-not-is_ended
invariant_of-self-then-not-is_ended g c = record {
  followed = one_moves g.P.Process.turns g.V.Service.starts g.V.Service.frames _ g.S.Socket.supplied g.S.Socket.accepted
      _ _ _ _ _ c.in-Some.client c.in-Some.client
      (omega (arith, c.if-slot-len.false, c.len.ensures)) c.index_mut.ensures.value c.in-Some.is
      (λ h. h)
      c.args.self.now.followed;
}

pub invariant_of-self-in-Some : goal.invariant_of-self-in-Some
invariant_of-self-in-Some g c = record {
  followed = one_moves g.P.Process.turns g.V.Service.starts g.V.Service.frames _ g.S.Socket.supplied g.S.Socket.accepted
      _ _ _ _ _ c.in-Some.client c.end.new.self
      (omega (arith, c.if-slot-len.false, c.len.ensures)) c.index_mut.ensures.value c.in-Some.is
      (λ h. ends_followed g.P.Process.turns g.V.Service.starts g.V.Service.frames _ g.S.Socket.supplied
      g.S.Socket.accepted _ _ _ c.in-Some.client c.end.new.self (sym c.has_link.ensures ∙ c.if-has_link.false)
      (subst (λ k. is_free k ≡ true) c.phase.ensures
      (c.is_between.ensures (grind (arith, c.if-not-is_between.false)))) (sym c.is_ended.ensures
      ∙ (grind (arith, c.if-not-is_ended.false)))
      (c.requires c.in-Some.client (at_place c.args.self.now.clients.items c.args.slot c.index_mut.result.now
      c.in-Some.client (omega (arith, c.if-slot-len.false, c.len.ensures)) c.index_mut.ensures.value c.in-Some.is))
      (λ e. c.is_incomplete.ensures (sym c.end.ensures.whole ∙ e))
      c.end.ensures.phase c.end.ensures.socket c.end.ensures.input c.end.ensures.output h)
      c.args.self.now.followed;
}

pub invariant_of-self-in-None : goal.invariant_of-self-in-None
invariant_of-self-in-None g c = record {
  followed = all_same g.P.Process.turns g.V.Service.starts g.V.Service.frames _ g.S.Socket.supplied g.S.Socket.accepted
      _ _ _ _ _ (omega (arith, c.if-slot-len.false, c.len.ensures)) c.index_mut.ensures.value c.args.self.now.followed;
}
