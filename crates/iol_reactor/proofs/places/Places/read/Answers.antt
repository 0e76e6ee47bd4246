use Rattle.std.proofs.Common.{◌≡◌, arith, false, subst, sym}
use Rattle.std.specs.Io.KnownBytes.{Keeps}
use Rattle.iol_reactor.specs.Bytes.{Grows}
use Rattle.iol_reactor.specs.Served.{is_ending}
use Rattle.iol_reactor.proofs.Served.{all_same, one_moves, over_followed, read_followed}
use Rattle.iol_reactor.proofs.places.Places.read.Goals as goal

pub invariant_of-self : goal.invariant_of-self
invariant_of-self g c = record {
  followed = one_moves g.P.Process.turns g.V.Service.starts g.V.Service.frames _ g.S.Socket.supplied g.S.Socket.accepted
      _ _ _ _ _ c.in-Some.client c.in-Some.client
      (omega (arith, c.if-slot-len.false, c.len.ensures)) c.index_mut.ensures.value c.in-Some.is
      (λ h. h)
      c.args.self.now.followed;
}

pub invariant_of-self-then-not-may_read : goal.invariant_of-self-then-not-may_read
invariant_of-self-then-not-may_read g c = record {
  followed = one_moves g.P.Process.turns g.V.Service.starts g.V.Service.frames _ g.S.Socket.supplied g.S.Socket.accepted
      _ _ _ _ _ c.in-Some.client c.in-Some.client
      (omega (arith, c.if-slot-len.false, c.len.ensures)) c.index_mut.ensures.value c.in-Some.is
      (λ h. h)
      c.args.self.now.followed;
}

pub invariant_of-self-then-is_failed : goal.invariant_of-self-then-is_failed
invariant_of-self-then-is_failed g c = record {
  followed = one_moves g.P.Process.turns g.V.Service.starts g.V.Service.frames _ g.S.Socket.supplied g.S.Socket.accepted
      _ _ _ _ _ c.in-Some.client c.set_phase.new.self
      (omega (arith, c.if-slot-len.false, c.len.ensures)) c.index_mut.ensures.value c.in-Some.is
      (λ h. over_followed g.P.Process.turns g.V.Service.starts g.V.Service.frames _ g.S.Socket.supplied
      g.S.Socket.accepted _ _ _ _ c.in-Some.client c.set_phase.new.self
      (subst (λ k. Grows (g.S.Socket.supplied c.in-Some.client.socket) (g.S.Socket.supplied k))
      (sym c.set_phase.ensures.socket) c.read-reading.ensures.came)
      (subst (λ k. Keeps (g.S.Socket.accepted c.in-Some.client.socket) (g.S.Socket.accepted k))
      (sym c.set_phase.ensures.socket) c.read-reading.ensures.sent) c.set_phase.ensures.phase h)
      c.args.self.now.followed;
}

pub invariant_of-self-else-is_failed : goal.invariant_of-self-else-is_failed
invariant_of-self-else-is_failed g c = record {
  followed = one_moves g.P.Process.turns g.V.Service.starts g.V.Service.frames _ g.S.Socket.supplied g.S.Socket.accepted
      _ _ _ _ _ c.in-Some.client c.read-reading.new.self
      (omega (arith, c.if-slot-len.false, c.len.ensures)) c.index_mut.ensures.value c.in-Some.is
      (λ h. read_followed g.P.Process.turns g.V.Service.starts g.V.Service.frames _ g.S.Socket.supplied
      g.S.Socket.accepted _ _ c.in-Some.client c.read-reading.new.self
      (subst (λ k. is_ending k ≡ false) c.phase.ensures (c.is_open.ensures (grind (arith, c.if-not-is_open.false))))
      (c.read-reading.ensures.gains (c.is_failed.ensures c.if-is_failed.false)) c.read-reading.ensures.sent
      c.read-reading.ensures.asked c.read-reading.ensures.given c.read-reading.ensures.phase
      c.read-reading.ensures.output c.read-reading.ensures.last c.read-reading.ensures.whole h)
      c.args.self.now.followed;
}

pub invariant_of-self-in-None : goal.invariant_of-self-in-None
invariant_of-self-in-None g c = record {
  followed = all_same g.P.Process.turns g.V.Service.starts g.V.Service.frames _ g.S.Socket.supplied g.S.Socket.accepted
      _ _ _ _ _ (omega (arith, c.if-slot-len.false, c.len.ensures)) c.index_mut.ensures.value c.args.self.now.followed;
}
