use Rattle.std.proofs.Common.{ℕ, ◌-◌, ◌<◌, ◌≤◌, length}
use Rattle.iol_evict.specs.Ranks.{RankLt, RankLe}
use Rattle.iol_evict.specs.Indexes.{rank_at}
use Rattle.iol_evict.proofs.index.position.Given as goal

abbrev pub invariant-loop-low : goal.invariant-loop-low
invariant-loop-low l = record {
  ordered : l.low ≤ l.high;
  within : l.high ≤ length l.keys.items;
  before : (i : ℕ) → i < l.low → RankLt (rank_at l.by l.entries l.keys.items i) l.rank;
  after : (i : ℕ) → l.high ≤ i → i < length l.keys.items → RankLe l.rank (rank_at l.by l.entries l.keys.items i);
}

abbrev pub decreases-loop-low : goal.decreases-loop-low
decreases-loop-low l = l.high - l.low
