use Rattle.std.proofs.Common.{◌≡◌, ◌∙◌, arith, refl, subst, sym}
use Rattle.std.specs.Prelude.{◌⊎◌}
use Rattle.iol_reactor.specs.declared.client.Phase.TheVariants as phase
use Rattle.iol_reactor.proofs.Passing.{passed_at}
use Rattle.iol_reactor.proofs.Served.{all_move, all_same, links_rest, one_moves, others_goes}
use Rattle.iol_reactor.proofs.places.Places.offer.Goals as goal

pub invariant_of-self : goal.invariant_of-self
invariant_of-self g c = record { followed = c.args.self.now.followed }

pub invariant_of-self-then-not-has_link : goal.invariant_of-self-then-not-has_link
invariant_of-self-then-not-has_link g c = record { followed = c.args.self.now.followed }

pub invariant_of-self-then-not-is_served : goal.invariant_of-self-then-not-is_served
invariant_of-self-then-not-is_served g c = record {
  followed = one_moves g.P.Process.turns g.V.Service.starts g.V.Service.frames _ g.S.Socket.supplied g.S.Socket.accepted
      _ _ _ _ _ c.in-Some.client c.in-Some.client
      (omega (arith, c.if-slot-len.false, c.len.ensures)) c.index_mut.ensures.value c.in-Some.is
      (λ h. h)
      c.args.self.now.followed;
}

pub invariant_of-self-then-not-is_flushed : goal.invariant_of-self-then-not-is_flushed
invariant_of-self-then-not-is_flushed g c = record {
  followed = one_moves g.P.Process.turns g.V.Service.starts g.V.Service.frames _ g.S.Socket.supplied g.S.Socket.accepted
      _ _ _ _ _ c.in-Some.client c.in-Some.client
      (omega (arith, c.if-slot-len.false, c.len.ensures)) c.index_mut.ensures.value c.in-Some.is
      (λ h. h)
      c.args.self.now.followed;
}

pub invariant_of-self-in-Some : goal.invariant_of-self-in-Some
invariant_of-self-in-Some g c = record {
  followed = all_move g.P.Process.turns g.V.Service.starts g.V.Service.frames _ g.S.Socket.supplied g.S.Socket.accepted
      _ _ _ _ _ _ _ _ c.in-Some.client c.touch.new.client
      c.args.self.now.worlds.links.apart c.args.self.now.worlds.links.came
      (others_goes g.P.Process.turns g.V.Service.starts g.V.Service.frames _ _ _ _ _ _ _
      c.offer-offered.ensures.visits.2)
      (λ j _. links_rest _ _ c.offer-offered.ensures.links j)
      (omega (arith, c.if-slot-len.false, c.len.ensures)) c.index_mut.ensures.value c.in-Some.is
      (λ h. passed_at g.P.Process.turns g.V.Service.starts g.V.Service.frames _ g.S.Socket.supplied
      g.S.Socket.accepted _ _ _ _ _ c.in-Some.client c.in-Some.client c.offer-offered.new.taker c.touch.new.client
      (subst (λ k. (k ≡ phase.Answering) ⊎ (k ≡ phase.Leaving)) c.phase.ensures
      (c.is_served.ensures (grind (arith, c.if-not-is_served.false)))) (sym c.has_link.ensures
      ∙ (grind (arith, c.if-not-has_link.false)))
      (c.is_flushed.ensures.0 (grind (arith, c.if-not-is_flushed.false))) refl refl refl refl refl refl
      c.offer-offered.ensures.visits.2 (links_rest _ _ c.offer-offered.ensures.links _)
      c.offer-offered.ensures.calls c.offer-offered.ensures.visits.1
      c.touch.ensures.output c.touch.ensures.socket c.touch.ensures.phase c.touch.ensures.input c.touch.ensures.last
      c.touch.ensures.whole h)
      c.args.self.now.followed;
}

pub invariant_of-self-in-None : goal.invariant_of-self-in-None
invariant_of-self-in-None g c = record {
  followed = all_same g.P.Process.turns g.V.Service.starts g.V.Service.frames _ g.S.Socket.supplied g.S.Socket.accepted
      _ _ _ _ _ (omega (arith, c.if-slot-len.false, c.len.ensures)) c.index_mut.ensures.value c.args.self.now.followed;
}
