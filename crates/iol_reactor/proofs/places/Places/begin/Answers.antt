use Rattle.std.proofs.Common.{◌≡◌, ◌∙◌, drop, false, arith, subst, sym, true}
use Rattle.iol_reactor.specs.Served.{is_free}
use Rattle.iol_reactor.proofs.Served.{all_same, at_place, begun_followed, one_moves}
use Rattle.iol_reactor.proofs.places.Places.begin.Goals as goal

pub invariant_of-self : goal.invariant_of-self
invariant_of-self g c = record {
  followed = one_moves g.P.Process.turns g.V.Service.starts g.V.Service.frames _ g.S.Socket.supplied g.S.Socket.accepted
      _ _ _ _ _ c.in-Some.client c.in-Some.client
      (omega (arith, c.if-slot-len.false, c.len.ensures)) c.index_mut.ensures.value c.in-Some.is
      (λ h. h)
      c.args.self.now.followed;
}

pub invariant_of-self-in-Complete : goal.invariant_of-self-in-Complete
invariant_of-self-in-Complete g c = record {
  followed = one_moves g.P.Process.turns g.V.Service.starts g.V.Service.frames _ g.S.Socket.supplied g.S.Socket.accepted
      _ _ _ _ _ c.in-Some.client c.begin.new.self
      (omega (arith, c.if-slot-len.false, c.len.ensures)) c.index_mut.ensures.value c.in-Some.is
      (λ h. begun_followed g.P.Process.turns g.V.Service.starts g.V.Service.frames _ g.S.Socket.supplied
      g.S.Socket.accepted _ _ _ false c.in-Some.client c.begin.new.self (sym c.has_link.ensures
      ∙ (grind (arith, c.if-not-has_link.false)))
      (subst (λ k. is_free k ≡ true) c.phase.ensures (c.is_between.ensures c.if-is_between.true))
      (subst (λ k. g.V.Service.frames (drop c.in-Some.client.input.asked c.in-Some.client.input.bytes.items) k)
      c.in-Complete.is
      (c.requires c.in-Some.client (at_place c.args.self.now.clients.items c.args.slot c.index_mut.result.now
      c.in-Some.client (omega (arith, c.if-slot-len.false, c.len.ensures)) c.index_mut.ensures.value c.in-Some.is)))
      c.begin.ensures.begun c.begin.ensures.last c.begin.ensures.unsent c.begin.ensures.socket c.begin.ensures.phase h)
      c.args.self.now.followed;
}

pub invariant_of-self-in-Last : goal.invariant_of-self-in-Last
invariant_of-self-in-Last g c = record {
  followed = one_moves g.P.Process.turns g.V.Service.starts g.V.Service.frames _ g.S.Socket.supplied g.S.Socket.accepted
      _ _ _ _ _ c.in-Some.client c.begin-in-Last.new.self
      (omega (arith, c.if-slot-len.false, c.len.ensures)) c.index_mut.ensures.value c.in-Some.is
      (λ h. begun_followed g.P.Process.turns g.V.Service.starts g.V.Service.frames _ g.S.Socket.supplied
      g.S.Socket.accepted _ _ _ true c.in-Some.client c.begin-in-Last.new.self (sym c.has_link.ensures
      ∙ (grind (arith, c.if-not-has_link.false)))
      (subst (λ k. is_free k ≡ true) c.phase.ensures (c.is_between.ensures c.if-is_between.true))
      (subst (λ k. g.V.Service.frames (drop c.in-Some.client.input.asked c.in-Some.client.input.bytes.items) k)
      c.in-Last.is
      (c.requires c.in-Some.client (at_place c.args.self.now.clients.items c.args.slot c.index_mut.result.now
      c.in-Some.client (omega (arith, c.if-slot-len.false, c.len.ensures)) c.index_mut.ensures.value c.in-Some.is)))
      c.begin-in-Last.ensures.begun c.begin-in-Last.ensures.last c.begin-in-Last.ensures.unsent
      c.begin-in-Last.ensures.socket c.begin-in-Last.ensures.phase h)
      c.args.self.now.followed;
}

pub invariant_of-self-else-is_between : goal.invariant_of-self-else-is_between
invariant_of-self-else-is_between g c = record {
  followed = one_moves g.P.Process.turns g.V.Service.starts g.V.Service.frames _ g.S.Socket.supplied g.S.Socket.accepted
      _ _ _ _ _ c.in-Some.client c.in-Some.client
      (omega (arith, c.if-slot-len.false, c.len.ensures)) c.index_mut.ensures.value c.in-Some.is
      (λ h. h)
      c.args.self.now.followed;
}

pub invariant_of-self-in-None : goal.invariant_of-self-in-None
invariant_of-self-in-None g c = record {
  followed = all_same g.P.Process.turns g.V.Service.starts g.V.Service.frames _ g.S.Socket.supplied g.S.Socket.accepted
      _ _ _ _ _ (omega (arith, c.if-slot-len.false, c.len.ensures)) c.index_mut.ensures.value c.args.self.now.followed;
}
