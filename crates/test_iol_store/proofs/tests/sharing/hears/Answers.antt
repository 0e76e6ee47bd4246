use Rattle.std.proofs.Common.{List, ap}
use Rattle.iol_agg.proofs.KnownHolds.{of_ok}
use Rattle.iol_hold.specs.declared.slices.Slice.{Slice}
use Rattle.iol_pipe.specs.NewBytes.{AddsFitting}
use Rattle.iol_sock.specs.Connections.{Conn}
use Rattle.test_iol_store.proofs.Sharing.{arrived}
use Rattle.test_iol_store.proofs.tests.sharing.hears.Goals as goal

pub returns : goal.returns
returns g c =
    let conn = c.new-conn.result in
    let adds =
    of_ok (AddsFitting c.args.store.now c.arrive.new.store conn.incoming c.arrive.new.self.incoming conn.pool _)
    c.arrive.result c.expect.result c.arrive.ensures.adds c.expect.ensures in
    arrived c.args.store.now c.arrive.new.store conn.incoming c.arrive.new.self.incoming conn.pool c.expect.result _
    (ap (λ (x : Conn (List Slice)). x.incoming) c.new-conn.ensures) c.requires adds
