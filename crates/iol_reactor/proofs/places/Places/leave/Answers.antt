use Rattle.std.proofs.Common.{◌≡◌, arith, subst, true}
use Rattle.iol_reactor.specs.Served.{is_free}
use Rattle.iol_reactor.proofs.Served.{leaves_at}
use Rattle.iol_reactor.proofs.Served.{all_move, all_same, links_rest, one_moves, others_goes}
use Rattle.iol_reactor.proofs.places.Places.leave.Goals as goal

pub invariant_of-self : goal.invariant_of-self
invariant_of-self g c = record { followed = c.args.self.now.followed }

pub invariant_of-self-then-is_between : goal.invariant_of-self-then-is_between
invariant_of-self-then-is_between g c = record {
  followed = all_move g.P.Process.turns g.V.Service.starts g.V.Service.frames _ g.S.Socket.supplied g.S.Socket.accepted
      _ _ _ _ _ _ _ _ c.in-Some.client c.set_phase.new.self
      c.args.self.now.worlds.links.apart c.args.self.now.worlds.links.came
      (others_goes g.P.Process.turns g.V.Service.starts g.V.Service.frames _ _ _ _ _ _ _ c.close.ensures.visits)
      (λ j _. links_rest _ _ c.close.ensures.links j)
      (omega (arith, c.if-slot-len.false, c.len.ensures)) c.index_mut.ensures.value c.in-Some.is
      (λ h. leaves_at g.P.Process.turns g.V.Service.starts g.V.Service.frames _ g.S.Socket.supplied g.S.Socket.accepted
      _ _ _ _ c.in-Some.client c.set_phase.new.self
      (subst (λ k. is_free k ≡ true) c.phase.ensures (c.is_between.ensures c.if-is_between.true))
      c.close.ensures.visits (links_rest _ _ c.close.ensures.links _) c.set_phase.ensures.phase
      c.set_phase.ensures.socket c.set_phase.ensures.input c.set_phase.ensures.output h)
      c.args.self.now.followed;
}

pub invariant_of-self-else-is_between : goal.invariant_of-self-else-is_between
invariant_of-self-else-is_between g c = record {
  followed = one_moves g.P.Process.turns g.V.Service.starts g.V.Service.frames _ g.S.Socket.supplied g.S.Socket.accepted
      _ _ _ _ _ c.in-Some.client c.in-Some.client
      (omega (arith, c.if-slot-len.false, c.len.ensures)) c.index_mut.ensures.value c.in-Some.is
      (λ h. h)
      c.args.self.now.followed;
}

pub invariant_of-self-in-None : goal.invariant_of-self-in-None
invariant_of-self-in-None g c = record {
  followed = all_same g.P.Process.turns g.V.Service.starts g.V.Service.frames _ g.S.Socket.supplied g.S.Socket.accepted
      _ _ _ _ _ (omega (arith, c.if-slot-len.false, c.len.ensures)) c.index_mut.ensures.value c.args.self.now.followed;
}
