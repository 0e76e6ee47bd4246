use Rattle.iol_agg.proofs.KnownHolds.{on_ok, held_on}
use Rattle.test_iol_store.proofs.tests.stores.add_pool.Goals as goal

pub returns : goal.returns
returns g c =
    λ held. held_on held (on_ok c.create_pool.result c.expect.result c.create_pool.ensures.moves c.expect.ensures)
