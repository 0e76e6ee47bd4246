use Rattle.iol_hold.specs.Texts.{AllReadable}
use Rattle.iol_agg.proofs.KnownHolds.{of_ok}
use Rattle.test_iol_store.proofs.tests.caches.reads.Goals as goal

pub to_vec-requires : goal.to_vec-requires
to_vec-requires g c = of_ok (AllReadable c.read.new.store) c.read.result c.expect-read.result c.read.ensures.readable
    c.expect-read.ensures
