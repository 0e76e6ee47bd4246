use Rattle.std.proofs.Common.{arith, sym}
use Rattle.iol_reactor.proofs.Served.{all_set_none, emptied, known_taken, none_past, taken_from}
use Rattle.iol_reactor.proofs.places.Places.remove.Goals as goal

pub invariant_of-self : goal.invariant_of-self
invariant_of-self g c = record {
  followed = all_set_none g.P.Process.turns g.V.Service.starts g.V.Service.frames _ g.S.Socket.supplied
      g.S.Socket.accepted _ _ _ _ _ (omega (arith, c.if-slot-len.false, c.len.ensures)) c.take.ensures.after
      c.args.self.now.followed;
}

pub returns-clause-client : goal.returns-clause-client
returns-clause-client g c =
    taken_from c.args.self.now.clients.items c.args.slot _ _ (omega (arith, c.if-slot-len.false, c.len.ensures))
    c.index_mut.ensures.value c.take.ensures.value

pub returns-clause-removed : goal.returns-clause-removed
returns-clause-removed g c =
    emptied c.args.self.now.clients.items c.args.slot _ (omega (arith, c.if-slot-len.false, c.len.ensures))
    c.take.ensures.after

pub returns-clause-history : goal.returns-clause-history
returns-clause-history g c =
    known_taken g.P.Process.turns g.V.Service.starts g.V.Service.frames _ g.S.Socket.supplied g.S.Socket.accepted _ _ _
    _ _ _ (omega (arith, c.if-slot-len.false, c.len.ensures)) c.index_mut.ensures.value c.take.ensures.value
    c.args.self.now.followed

pub returns-then-slot-len-clause-client : goal.returns-then-slot-len-clause-client
returns-then-slot-len-clause-client g c =
    sym (none_past c.args.self.now.clients.items c.args.slot (omega (arith, c.if-slot-len.true, c.len.ensures)))

pub returns-then-slot-len-clause-removed : goal.returns-then-slot-len-clause-removed
returns-then-slot-len-clause-removed g c =
    none_past c.args.self.now.clients.items c.args.slot (omega (arith, c.if-slot-len.true, c.len.ensures))
