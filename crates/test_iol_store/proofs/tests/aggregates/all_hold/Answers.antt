use Rattle.iol_agg.proofs.KnownHolds.{held_moves}
use Rattle.test_iol_store.proofs.tests.aggregates.all_hold.Goals as goal

pub copy_all-copied-requires : goal.copy_all-copied-requires
copy_all-copied-requires g c = held_moves c.start-store.ensures c.filled-agg.ensures.moves
