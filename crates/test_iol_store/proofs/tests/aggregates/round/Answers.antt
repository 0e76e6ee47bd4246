use Rattle.iol_agg.proofs.KnownHolds.{moved_covers}
use Rattle.test_iol_store.proofs.tests.aggregates.round.Goals as goal

pub release-requires : goal.release-requires
release-requires g c = moved_covers c.filled-agg.ensures.moves
