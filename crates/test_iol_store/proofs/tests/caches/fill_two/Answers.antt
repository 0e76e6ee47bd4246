use Rattle.std.proofs.Common.{arith}
use Rattle.test_iol_store.proofs.Caching.{filled_ready, filled_there}
use Rattle.test_iol_store.proofs.tests.caches.fill_two.Goals as goal

pub returns-clause-ready : goal.returns-clause-ready
returns-clause-ready g c =
    filled_ready c.args.store.now c.fill.new.store c.args.pool _ c.fill.result c.expect-agg.result c.requires.ready
    c.fill.ensures c.expect-agg.ensures

pub returns-clause-there : goal.returns-clause-there
returns-clause-there g c =
    filled_there c.args.store.now c.fill.new.store c.args.pool _ c.fill.result c.expect-agg.result c.requires.none
    c.fill.ensures c.expect-agg.ensures (omega arith)
