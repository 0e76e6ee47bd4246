use Rattle.iol_sock.proofs.AtPlace.{at_place, was_at}
use Rattle.iol_sock.proofs.table.Connections.drain_into.Goals as goal

pub drain_into-requires-clause-readable : goal.drain_into-requires-clause-readable
drain_into-requires-clause-readable g c =
    rw (was_at c.args.c c.self.view_is c.conn_mut.ensures.found.value) c.requires.readable

pub returns-clause-drains : goal.returns-clause-drains
returns-clause-drains g c =
    let at = at_place c.drain_into.new.self c.self.view_is c.conn_mut.ensures.found in
    record { conn = rw (at.old, at.new) at c.drain_into.ensures.drains; others = at.one }
