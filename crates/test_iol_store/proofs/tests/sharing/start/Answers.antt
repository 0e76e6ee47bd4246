use Rattle.test_iol_store.proofs.tests.sharing.start.Goals as goal

pub returns : goal.returns
returns g c = c.add_pool-pool.ensures c.new_store-store.ensures
