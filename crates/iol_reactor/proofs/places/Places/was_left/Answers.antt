use Rattle.std.proofs.Common.{◌∙◌, ap, arith, sym}
use Rattle.iol_reactor.specs.Bytes.{unsent_of}
use Rattle.iol_reactor.proofs.Served.{all_move, all_same, left_followed, one_moves, others_stay, released_at, set_rest}
use Rattle.iol_reactor.proofs.places.Places.was_left.Goals as goal

pub invariant_of-self : goal.invariant_of-self
invariant_of-self g c = record { followed = c.args.self.now.followed }

pub invariant_of-self-in-Leaving : goal.invariant_of-self-in-Leaving
invariant_of-self-in-Leaving g c = record {
  followed = all_move g.P.Process.turns g.V.Service.starts g.V.Service.frames _ g.S.Socket.supplied g.S.Socket.accepted
      _ _ _ _ _ _ _ _ c.in-Some.client c.set_phase.new.self
      c.args.self.now.worlds.links.apart c.args.self.now.worlds.links.came
      (others_stay g.P.Process.turns g.V.Service.starts g.V.Service.frames _ _ _ _ c.release.ensures.visits)
      (λ j other. set_rest _ _ _ _ c.release.ensures.table j other)
      (omega (arith, c.if-slot-len.false, c.len.ensures)) c.index_mut.ensures.value c.in-Some.is
      (λ h. left_followed g.P.Process.turns g.V.Service.starts g.V.Service.frames _ g.S.Socket.supplied
      g.S.Socket.accepted _ _ _ _ c.in-Some.client c.set_phase.new.self (sym c.phase.ensures ∙ c.in-Leaving.is)
      c.requires (released_at _ _ _ c.release.ensures.table) c.set_phase.ensures.phase
      (c.set_phase.ensures.socket ∙ c.release-in-Leaving.ensures.socket) (c.set_phase.ensures.input
      ∙ c.release-in-Leaving.ensures.input) (ap (λ k. unsent_of k) c.set_phase.ensures.output
      ∙ c.release-in-Leaving.ensures.unsent) h)
      c.args.self.now.followed;
}

pub invariant_of-self-in_default : goal.invariant_of-self-in_default
invariant_of-self-in_default g c = record {
  followed = one_moves g.P.Process.turns g.V.Service.starts g.V.Service.frames _ g.S.Socket.supplied g.S.Socket.accepted
      _ _ _ _ _ c.in-Some.client c.in-Some.client
      (omega (arith, c.if-slot-len.false, c.len.ensures)) c.index_mut.ensures.value c.in-Some.is
      (λ h. h)
      c.args.self.now.followed;
}

pub invariant_of-self-in-None : goal.invariant_of-self-in-None
invariant_of-self-in-None g c = record {
  followed = all_same g.P.Process.turns g.V.Service.starts g.V.Service.frames _ g.S.Socket.supplied g.S.Socket.accepted
      _ _ _ _ _ (omega (arith, c.if-slot-len.false, c.len.ensures)) c.index_mut.ensures.value c.args.self.now.followed;
}
