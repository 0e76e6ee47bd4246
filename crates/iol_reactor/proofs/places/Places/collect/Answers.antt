use Rattle.std.proofs.Common.{◌≡◌, ◌∙◌, ap, arith, subst, sym, List, ℕ, ◌++◌}
use Rattle.std.specs.Prelude.{◌⊎◌}
use Rattle.iol_reactor.specs.Bytes.{Passes, PassesSome, unsent_of}
use Rattle.iol_reactor.specs.declared.client.Phase.TheVariants as phase
use Rattle.iol_reactor.proofs.Served.{all_move, all_same, links_rest, lost_at, one_moves, others_goes, room_followed}
use Rattle.iol_reactor.proofs.Served.{sent_at}
use Rattle.iol_reactor.proofs.places.Places.collect.Goals as goal

pub invariant_of-self : goal.invariant_of-self
invariant_of-self g c = record { followed = c.args.self.now.followed }

pub invariant_of-self-then-not-has_link : goal.invariant_of-self-then-not-has_link
invariant_of-self-then-not-has_link g c = record { followed = c.args.self.now.followed }

pub invariant_of-self-then-not-is_served : goal.invariant_of-self-then-not-is_served
invariant_of-self-then-not-is_served g c = record {
  followed = one_moves g.P.Process.turns g.V.Service.starts g.V.Service.frames _ g.S.Socket.supplied g.S.Socket.accepted
      _ _ _ _ _ c.in-Some.client c.in-Some.client
      (omega (arith, c.if-slot-len.false, c.len.ensures)) c.index_mut.ensures.value c.in-Some.is
      (λ h. h)
      c.args.self.now.followed;
}

pub invariant_of-self-then-most-eq0 : goal.invariant_of-self-then-most-eq0
invariant_of-self-then-most-eq0 g c = record {
  followed = one_moves g.P.Process.turns g.V.Service.starts g.V.Service.frames _ g.S.Socket.supplied g.S.Socket.accepted
      _ _ _ _ _ c.in-Some.client c.room-most.new.self
      (omega (arith, c.if-slot-len.false, c.len.ensures)) c.index_mut.ensures.value c.in-Some.is
      (λ h. room_followed g.P.Process.turns g.V.Service.starts g.V.Service.frames _ g.S.Socket.supplied
      g.S.Socket.accepted _ _ c.in-Some.client c.room-most.new.self c.room-most.ensures.unsent
      c.room-most.ensures.socket c.room-most.ensures.phase c.room-most.ensures.input c.room-most.ensures.last
      c.room-most.ensures.whole h)
      c.args.self.now.followed;
}

pub invariant_of-self-in-All : goal.invariant_of-self-in-All
invariant_of-self-in-All g c = record {
  followed = all_move g.P.Process.turns g.V.Service.starts g.V.Service.frames _ g.S.Socket.supplied g.S.Socket.accepted
      _ _ _ _ _ _ _ _ c.in-Some.client c.send.new.client
      c.args.self.now.worlds.links.apart c.args.self.now.worlds.links.came
      (others_goes g.P.Process.turns g.V.Service.starts g.V.Service.frames _ _ _ _ _ _ _
      c.collect-collected.ensures.visits.2)
      (λ j _. links_rest _ _ c.collect-collected.ensures.links j)
      (omega (arith, c.if-slot-len.false, c.len.ensures)) c.index_mut.ensures.value c.in-Some.is
      (λ h. sent_at g.P.Process.turns g.V.Service.starts g.V.Service.frames _ g.S.Socket.supplied g.S.Socket.accepted _
      _ _ _ _ c.in-Some.client c.room-most.new.self c.send.new.client
      (subst (λ k. (k ≡ phase.Answering) ⊎ (k ≡ phase.Leaving)) c.phase.ensures
      (c.is_served.ensures (grind (arith, c.if-not-is_served.false)))) (sym c.has_link.ensures
      ∙ (grind (arith, c.if-not-has_link.false)))
      (c.room-most.ensures.none (λ e. absurd (grind (arith, c.if-most-eq0.false, e)))) c.room-most.ensures.unsent
      c.room-most.ensures.socket c.room-most.ensures.phase c.room-most.ensures.input c.room-most.ensures.last
      c.room-most.ensures.whole
      c.collect-collected.ensures.visits.2 (links_rest _ _ c.collect-collected.ensures.links _)
      (subst (λ (k : List ℕ). Passes (g.S.Socket.accepted c.room-most.new.self.socket)
      (g.S.Socket.accepted c.send.new.client.socket) k (unsent_of c.send.new.client.output)) (c.bytes.ensures
      ∙ (c.collect-collected.ensures.visits.1
      ∙ ap (λ (k : List ℕ). k ++ c.collect-collected.ensures.visits.0) c.clear.ensures))
      (c.send.ensures.passes (λ e. cc (c.in-All.is, e)))) c.send.ensures.came
      c.send.ensures.phase c.send.ensures.input c.send.ensures.last c.send.ensures.whole h)
      c.args.self.now.followed;
}

pub invariant_of-self-in-Blocked : goal.invariant_of-self-in-Blocked
invariant_of-self-in-Blocked g c = record {
  followed = all_move g.P.Process.turns g.V.Service.starts g.V.Service.frames _ g.S.Socket.supplied g.S.Socket.accepted
      _ _ _ _ _ _ _ _ c.in-Some.client c.send.new.client
      c.args.self.now.worlds.links.apart c.args.self.now.worlds.links.came
      (others_goes g.P.Process.turns g.V.Service.starts g.V.Service.frames _ _ _ _ _ _ _
      c.collect-collected.ensures.visits.2)
      (λ j _. links_rest _ _ c.collect-collected.ensures.links j)
      (omega (arith, c.if-slot-len.false, c.len.ensures)) c.index_mut.ensures.value c.in-Some.is
      (λ h. sent_at g.P.Process.turns g.V.Service.starts g.V.Service.frames _ g.S.Socket.supplied g.S.Socket.accepted _
      _ _ _ _ c.in-Some.client c.room-most.new.self c.send.new.client
      (subst (λ k. (k ≡ phase.Answering) ⊎ (k ≡ phase.Leaving)) c.phase.ensures
      (c.is_served.ensures (grind (arith, c.if-not-is_served.false)))) (sym c.has_link.ensures
      ∙ (grind (arith, c.if-not-has_link.false)))
      (c.room-most.ensures.none (λ e. absurd (grind (arith, c.if-most-eq0.false, e)))) c.room-most.ensures.unsent
      c.room-most.ensures.socket c.room-most.ensures.phase c.room-most.ensures.input c.room-most.ensures.last
      c.room-most.ensures.whole
      c.collect-collected.ensures.visits.2 (links_rest _ _ c.collect-collected.ensures.links _)
      (subst (λ (k : List ℕ). Passes (g.S.Socket.accepted c.room-most.new.self.socket)
      (g.S.Socket.accepted c.send.new.client.socket) k (unsent_of c.send.new.client.output)) (c.bytes.ensures
      ∙ (c.collect-collected.ensures.visits.1
      ∙ ap (λ (k : List ℕ). k ++ c.collect-collected.ensures.visits.0) c.clear.ensures))
      (c.send.ensures.passes (λ e. cc (c.in-Blocked.is, e)))) c.send.ensures.came
      c.send.ensures.phase c.send.ensures.input c.send.ensures.last c.send.ensures.whole h)
      c.args.self.now.followed;
}

pub invariant_of-self-in-Failed : goal.invariant_of-self-in-Failed
invariant_of-self-in-Failed g c = record {
  followed = all_move g.P.Process.turns g.V.Service.starts g.V.Service.frames _ g.S.Socket.supplied g.S.Socket.accepted
      _ _ _ _ _ _ _ _ c.in-Some.client c.set_phase.new.self
      c.args.self.now.worlds.links.apart c.args.self.now.worlds.links.came
      (others_goes g.P.Process.turns g.V.Service.starts g.V.Service.frames _ _ _ _ _ _ _
      c.collect-collected.ensures.visits.2)
      (λ j _. links_rest _ _ c.collect-collected.ensures.links j)
      (omega (arith, c.if-slot-len.false, c.len.ensures)) c.index_mut.ensures.value c.in-Some.is
      (λ h. lost_at g.P.Process.turns g.V.Service.starts g.V.Service.frames _ g.S.Socket.supplied g.S.Socket.accepted _
      _ _ _ _ c.in-Some.client c.room-most.new.self c.send.new.client c.set_phase.new.self
      (subst (λ k. (k ≡ phase.Answering) ⊎ (k ≡ phase.Leaving)) c.phase.ensures
      (c.is_served.ensures (grind (arith, c.if-not-is_served.false)))) (sym c.has_link.ensures
      ∙ (grind (arith, c.if-not-has_link.false)))
      (c.room-most.ensures.none (λ e. absurd (grind (arith, c.if-most-eq0.false, e)))) c.room-most.ensures.socket
      c.collect-collected.ensures.visits.2 (links_rest _ _ c.collect-collected.ensures.links _)
      (subst (λ (k : List ℕ). PassesSome (g.S.Socket.accepted c.room-most.new.self.socket)
      (g.S.Socket.accepted c.send.new.client.socket) k) (c.bytes.ensures
      ∙ (c.collect-collected.ensures.visits.1
      ∙ ap (λ (k : List ℕ). k ++ c.collect-collected.ensures.visits.0) c.clear.ensures)) c.send.ensures.some)
      c.send.ensures.came c.set_phase.ensures.socket c.set_phase.ensures.phase h)
      c.args.self.now.followed;
}

pub invariant_of-self-in-None : goal.invariant_of-self-in-None
invariant_of-self-in-None g c = record {
  followed = all_same g.P.Process.turns g.V.Service.starts g.V.Service.frames _ g.S.Socket.supplied g.S.Socket.accepted
      _ _ _ _ _ (omega (arith, c.if-slot-len.false, c.len.ensures)) c.index_mut.ensures.value c.args.self.now.followed;
}
