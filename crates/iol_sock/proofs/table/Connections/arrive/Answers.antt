use Rattle.iol_sock.proofs.AtPlace.{at_place}
use Rattle.iol_sock.proofs.table.Connections.arrive.Goals as goal

pub returns : goal.returns
returns c =
    let at = at_place c.arrive.new.self c.self.view_is c.conn_mut.ensures.found in
    record { conn = rw (at.old, at.new) at c.arrive.ensures; others = at.one }
