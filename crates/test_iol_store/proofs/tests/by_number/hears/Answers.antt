use Rattle.std.proofs.Common.{◌≡◌, List, ap, rules}
use Rattle.iol_agg.proofs.KnownHolds.{of_ok}
use Rattle.iol_hold.specs.declared.slices.Slice.{Slice}
use Rattle.iol_pipe.specs.NewBytes.{AddsFitting}
use Rattle.iol_sock.specs.Connections.{Conn, new_conn}
use Rattle.iol_sock.specs.Table.{conn_in}
use Rattle.iol_sock.proofs.WaitingList.{conn_in-there}
use Rattle.test_iol_store.proofs.Sharing.{arrived, is_there, open_there, still_there}
use Rattle.test_iol_store.proofs.tests.by_number.hears.Goals as goal

pub arrive-requires-clause-there : goal.arrive-requires-clause-there
arrive-requires-clause-there g c = is_there _ _ c.requires.one

pub arrive-requires-clause-pool : goal.arrive-requires-clause-pool
arrive-requires-clause-pool g c =
    open_there c.args.store.now.pools c.args.table.now.conns c.args.conn c.args.pool c.requires.one (search (rules))

pub returns : goal.returns
returns g c =
    let old = conn_in c.args.table.now.conns c.args.conn in
    let new = conn_in c.arrive.new.self.conns c.args.conn in
    let is : old ≡ new_conn c.args.pool =
    conn_in-there c.args.table.now.conns c.args.conn (new_conn c.args.pool) c.requires.one in
    let adds = of_ok (AddsFitting c.args.store.now c.arrive.new.store old.incoming new.incoming old.pool _)
    c.arrive.result c.expect.result c.arrive.ensures.conn.adds c.expect.ensures in
    record {
      there = still_there c.args.table.now c.arrive.new.self c.args.conn (is_there _ _ c.requires.one)
          c.arrive.ensures.others;
      queued = arrived c.args.store.now c.arrive.new.store old.incoming new.incoming old.pool c.expect.result _
          (ap (λ (x : Conn (List Slice)). x.incoming) is) c.requires.none adds;
    }
