use Rattle.iol_agg.proofs.KnownHolds.{of_ok}
use Rattle.iol_pipe.specs.Queue.{GivesFirst}
use Rattle.iol_sock.specs.Table.{conn_in}
use Rattle.test_iol_store.proofs.Sharing.{front_readable, there_countable, there_covers}
use Rattle.test_iol_store.proofs.tests.by_number.gives.Goals as goal

pub front-requires-clause-covered : goal.front-requires-clause-covered
front-requires-clause-covered g c = there_covers (conn_in c.args.table.now.conns c.args.conn).incoming c.requires.queued

pub front-requires-clause-countable : goal.front-requires-clause-countable
front-requires-clause-countable g c =
    there_countable (conn_in c.args.table.now.conns c.args.conn).incoming c.requires.queued

pub to_vec-requires : goal.to_vec-requires
to_vec-requires g c =
    let old = (conn_in c.args.table.now.conns c.args.conn).incoming in
    let new = (conn_in c.front.new.self.conns c.args.conn).incoming in
    front_readable c.expect-front.result old new 3 c.new.result c.requires.queued
    (of_ok (λ a. GivesFirst c.args.store.now c.front.new.store old a new 3 c.new.result) c.front.result
    c.expect-front.result c.front.ensures.conn.gives c.expect-front.ensures)
