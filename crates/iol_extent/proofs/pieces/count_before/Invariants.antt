use Rattle.std.proofs.Common.{ℕ, ◌-◌, ◌<◌, ◌≤◌, length, slice_index_or}
use Rattle.iol_extent.specs.Extents.{Extent, end_of}
use Rattle.iol_extent.proofs.pieces.count_before.Given as goal

abbrev pub invariant-loop-low : goal.invariant-loop-low
invariant-loop-low l = record {
  ordered : l.low ≤ l.high;
  within : l.high ≤ length l.pieces.extents;
  before : (k : ℕ) (d : Extent) → k < l.low → end_of (slice_index_or l.pieces.extents k d) ≤ l.at;
  after : (d : Extent) → l.high < length l.pieces.extents → l.at < end_of (slice_index_or l.pieces.extents l.high d);
}

abbrev pub decreases-loop-low : goal.decreases-loop-low
decreases-loop-low l = l.high - l.low
