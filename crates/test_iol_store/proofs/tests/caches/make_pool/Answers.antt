use Rattle.iol_agg.proofs.KnownHolds.{held_on, on_ok}
use Rattle.test_iol_store.proofs.Caching.{pool_ready}
use Rattle.test_iol_store.proofs.tests.caches.make_pool.Goals as goal

pub returns-clause-ready : goal.returns-clause-ready
returns-clause-ready g c =
    pool_ready c.args.store.now c.create_pool.new.self 1 c.expect-names.result c.create_pool.result c.expect.result
    c.requires.ready c.create_pool.ensures c.expect.ensures

pub returns-clause-none : goal.returns-clause-none
returns-clause-none g c =
    held_on c.requires.none (on_ok c.create_pool.result c.expect.result c.create_pool.ensures.moves c.expect.ensures)
