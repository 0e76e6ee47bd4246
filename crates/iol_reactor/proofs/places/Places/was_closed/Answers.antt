use Rattle.std.proofs.Common.{◌∙◌, arith, sym}
use Rattle.iol_reactor.proofs.Served.{all_move, all_same, closed_followed, one_moves, others_stay, set_rest}
use Rattle.iol_reactor.proofs.places.Places.was_closed.Goals as goal

pub invariant_of-self : goal.invariant_of-self
invariant_of-self g c = record { followed = c.args.self.now.followed }

pub invariant_of-self-in-Answering : goal.invariant_of-self-in-Answering
invariant_of-self-in-Answering g c = record {
  followed = all_move g.P.Process.turns g.V.Service.starts g.V.Service.frames _ g.S.Socket.supplied g.S.Socket.accepted
      _ _ _ _ _ _ _ _ c.in-Some.client c.end.new.client
      c.args.self.now.worlds.links.apart c.args.self.now.worlds.links.came
      (others_stay g.P.Process.turns g.V.Service.starts g.V.Service.frames _ _ _ _ c.release.ensures.visits)
      (λ j other. set_rest _ _ _ _ c.release.ensures.table j other)
      (omega (arith, c.if-slot-len.false, c.len.ensures)) c.index_mut.ensures.value c.in-Some.is
      (λ h. closed_followed g.P.Process.turns g.V.Service.starts g.V.Service.frames _ g.S.Socket.supplied
      g.S.Socket.accepted _ _ _ _ c.in-Some.client c.end.new.client (sym c.phase.ensures ∙ c.in-Answering.is)
      c.requires (λ h. (c.end.ensures.whole.0 h).0) (λ h. (c.end.ensures.whole.0 h).1) c.end.ensures.phase c.end.ensures.socket
      c.end.ensures.unsent h)
      c.args.self.now.followed;
}

pub invariant_of-self-in_default : goal.invariant_of-self-in_default
invariant_of-self-in_default g c = record {
  followed = one_moves g.P.Process.turns g.V.Service.starts g.V.Service.frames _ g.S.Socket.supplied g.S.Socket.accepted
      _ _ _ _ _ c.in-Some.client c.in-Some.client
      (omega (arith, c.if-slot-len.false, c.len.ensures)) c.index_mut.ensures.value c.in-Some.is
      (λ h. h)
      c.args.self.now.followed;
}

pub invariant_of-self-in-None : goal.invariant_of-self-in-None
invariant_of-self-in-None g c = record {
  followed = all_same g.P.Process.turns g.V.Service.starts g.V.Service.frames _ g.S.Socket.supplied g.S.Socket.accepted
      _ _ _ _ _ (omega (arith, c.if-slot-len.false, c.len.ensures)) c.index_mut.ensures.value c.args.self.now.followed;
}
