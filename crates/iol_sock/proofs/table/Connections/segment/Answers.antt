use Rattle.iol_sock.proofs.AtPlace.{at_place, was_at}
use Rattle.iol_sock.proofs.table.Connections.segment.Goals as goal

pub segment-requires : goal.segment-requires
segment-requires c =
    let was = was_at c.args.c c.self.view_is c.conn_mut.ensures.found.value in
    record {
      covered = rw was c.requires.covered;
      countable = rw was c.requires.countable;
      readable =
          rw was c.requires.readable;
      right = c.requires.right;
    }

pub returns : goal.returns
returns c =
    let at = at_place c.segment.new.self c.self.view_is c.conn_mut.ensures.found in
    record { conn = rw (at.old, at.new) at c.segment.ensures; others = at.one }
