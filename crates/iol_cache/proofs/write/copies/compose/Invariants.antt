use Rattle.std.proofs.Common.{◌≡◌, ◌-◌, ◌≤◌, length, take, drop}
use Rattle.iol_hold.specs.Places.{byte_len}
use Rattle.iol_cache.specs.Composition.{ComposesRun}
use Rattle.iol_cache.proofs.write.copies.compose.Given as goal

abbrev pub invariant-loop-i : goal.invariant-loop-i
invariant-loop-i l = record {
  within : l.i ≤ length l.source;
  at : l.at ≡ byte_len (take l.i l.source);
  composes : ComposesRun l.fn.store l.store l.pool l.source (drop l.i l.source) l.so_far;
}

abbrev pub decreases-loop-i : goal.decreases-loop-i
decreases-loop-i l = length l.source - l.i
