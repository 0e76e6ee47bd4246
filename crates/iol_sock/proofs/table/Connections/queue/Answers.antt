use Rattle.iol_sock.proofs.AtPlace.{at_place}
use Rattle.iol_sock.proofs.table.Connections.queue.Goals as goal

pub returns : goal.returns
returns c =
    let at = at_place c.queue.new.self c.self.view_is c.conn_mut.ensures.found in
    record { conn = rw (at.old, at.new) at c.queue.ensures; others = at.one }
