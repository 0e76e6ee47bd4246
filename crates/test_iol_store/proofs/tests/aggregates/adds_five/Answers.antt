use Rattle.iol_agg.proofs.KnownHolds.{held_moves}
use Rattle.test_iol_store.proofs.tests.aggregates.adds_five.Goals as goal

pub adds-all-requires : goal.adds-all-requires
adds-all-requires g c = held_moves c.start-store.ensures c.filled-agg.ensures.moves
