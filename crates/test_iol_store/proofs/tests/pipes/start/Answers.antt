use Rattle.test_iol_store.proofs.tests.pipes.start.Goals as goal

pub returns : goal.returns
returns g c = c.add_pool-second.ensures (c.add_pool-both.ensures c.new_store-store.ensures)
