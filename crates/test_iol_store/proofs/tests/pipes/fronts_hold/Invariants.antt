use Rattle.iol_hold.specs.Texts.{bufs_of}
use Rattle.iol_agg.specs.KnownHolds.{IsHeldBy}
use Rattle.test_iol_store.proofs.tests.pipes.fronts_hold.Given as goal

abbrev pub invariant-loop-n : goal.invariant-loop-n
invariant-loop-n g l = IsHeldBy l.store (bufs_of l.pipe)
