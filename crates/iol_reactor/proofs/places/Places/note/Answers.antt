use Rattle.std.proofs.Common.{arith}
use Rattle.iol_reactor.proofs.Served.{all_same, note_followed, one_moves}
use Rattle.iol_reactor.proofs.places.Places.note.Goals as goal

pub invariant_of-self : goal.invariant_of-self
invariant_of-self g c = record {
  followed = one_moves g.P.Process.turns g.V.Service.starts g.V.Service.frames _ g.S.Socket.supplied g.S.Socket.accepted
      _ _ _ _ _ c.in-Some.client c.note.new.self
      (omega (arith, c.if-slot-len.false, c.len.ensures)) c.index_mut.ensures.value c.in-Some.is
      (λ h. note_followed g.P.Process.turns g.V.Service.starts g.V.Service.frames _ g.S.Socket.supplied
      g.S.Socket.accepted _ _ _ _ c.note.ensures.input.bytes c.note.ensures.input.asked c.note.ensures.input.given
      c.note.ensures.ended
      c.note.ensures.unsent c.note.ensures.socket c.note.ensures.phase c.note.ensures.last c.note.ensures.whole h)
      c.args.self.now.followed;
}

pub invariant_of-self-in-None : goal.invariant_of-self-in-None
invariant_of-self-in-None g c = record {
  followed = all_same g.P.Process.turns g.V.Service.starts g.V.Service.frames _ g.S.Socket.supplied g.S.Socket.accepted
      _ _ _ _ _
      (omega (arith, c.if-slot-len.false, c.len.ensures)) c.index_mut.ensures.value c.args.self.now.followed;
}
