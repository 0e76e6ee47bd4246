use Rattle.std.proofs.Common.{length}
use Rattle.iol_kernel.specs.AggregateCalls.{ReleasesAll}
use Rattle.iol_kernel.proofs.AggregateCalls.DomainEnd.{AreReadable}
use Rattle.iol_kernel.proofs.tables.release_all.Given as goal

abbrev pub invariant-loop-agg : goal.invariant-loop-agg
invariant-loop-agg l = record {
  released : ReleasesAll l.fn.store l.store l.fn.aggs l.left;
  readable : AreReadable l.fn.store l.fn.aggs → AreReadable l.fn.store l.left;
}

abbrev pub decreases-loop-agg : goal.decreases-loop-agg
decreases-loop-agg l = length l.left
