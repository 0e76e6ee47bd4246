use Rattle.iol_sock.proofs.AtPlace.{at_place, was_at}
use Rattle.iol_sock.proofs.table.Connections.drain_to.Goals as goal

pub drain_to-requires-clause-readable : goal.drain_to-requires-clause-readable
drain_to-requires-clause-readable g c =
    rw (was_at c.args.c c.self.view_is c.conn_mut.ensures.found.value) c.requires.readable

pub returns : goal.returns
returns g c =
    let at = at_place c.drain_to.new.self c.self.view_is c.conn_mut.ensures.found in
    record { conn = rw (at.old, at.new) at c.drain_to.ensures; others = at.one }
