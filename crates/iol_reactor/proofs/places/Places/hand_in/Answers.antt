use Rattle.std.proofs.Common.{◌∙◌, arith, refl, sym}
use Rattle.iol_reactor.proofs.Served.{all_move, all_same, handed_at, links_rest, one_moves, others_goes}
use Rattle.iol_reactor.proofs.places.Places.hand_in.Goals as goal

pub invariant_of-self : goal.invariant_of-self
invariant_of-self g c = record { followed = c.args.self.now.followed }

pub invariant_of-self-then-is_given : goal.invariant_of-self-then-is_given
invariant_of-self-then-is_given g c = record {
  followed = one_moves g.P.Process.turns g.V.Service.starts g.V.Service.frames _ g.S.Socket.supplied g.S.Socket.accepted
      _ _ _ _ _ c.in-Some.client c.in-Some.client
      (omega (arith, c.if-slot-len.false, c.len.ensures)) c.index_mut.ensures.value c.in-Some.is
      (λ h. h)
      c.args.self.now.followed;
}

pub invariant_of-self-in-Answering : goal.invariant_of-self-in-Answering
invariant_of-self-in-Answering g c = record {
  followed = all_move g.P.Process.turns g.V.Service.starts g.V.Service.frames _ g.S.Socket.supplied g.S.Socket.accepted
      _ _ _ _ _ _ _ _ c.in-Some.client c.give.new.self
      c.args.self.now.worlds.links.apart c.args.self.now.worlds.links.came
      (others_goes g.P.Process.turns g.V.Service.starts g.V.Service.frames _ _ _ _ _ _ _
      c.hand_in-rest.ensures.visits.2)
      (λ j _. links_rest _ _ c.hand_in-rest.ensures.links j)
      (omega (arith, c.if-slot-len.false, c.len.ensures)) c.index_mut.ensures.value c.in-Some.is
      (λ h. handed_at g.P.Process.turns g.V.Service.starts g.V.Service.frames _ g.S.Socket.supplied g.S.Socket.accepted
      _ _ _ _ _ _ _ c.in-Some.client c.give.new.self (sym c.phase.ensures ∙ c.in-Answering.is) c.rest.ensures refl
      c.hand_in-rest.ensures.visits (links_rest _ _ c.hand_in-rest.ensures.links _) c.give.ensures.given
      c.give.ensures.socket c.give.ensures.phase c.give.ensures.output c.give.ensures.last h)
      c.args.self.now.followed;
}

pub invariant_of-self-in_default : goal.invariant_of-self-in_default
invariant_of-self-in_default g c = record {
  followed = one_moves g.P.Process.turns g.V.Service.starts g.V.Service.frames _ g.S.Socket.supplied g.S.Socket.accepted
      _ _ _ _ _ c.in-Some.client c.in-Some.client
      (omega (arith, c.if-slot-len.false, c.len.ensures)) c.index_mut.ensures.value c.in-Some.is
      (λ h. h)
      c.args.self.now.followed;
}

pub invariant_of-self-in-None : goal.invariant_of-self-in-None
invariant_of-self-in-None g c = record {
  followed = all_same g.P.Process.turns g.V.Service.starts g.V.Service.frames _ g.S.Socket.supplied g.S.Socket.accepted
      _ _ _ _ _ (omega (arith, c.if-slot-len.false, c.len.ensures)) c.index_mut.ensures.value c.args.self.now.followed;
}
