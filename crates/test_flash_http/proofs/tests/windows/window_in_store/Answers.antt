use Rattle.iol_agg.proofs.KnownHolds.{moved_covers}
use Rattle.test_flash_http.proofs.tests.windows.window_in_store.Goals as goal

pub release-requires : goal.release-requires
release-requires g c = moved_covers c.filled-agg.ensures.moves
