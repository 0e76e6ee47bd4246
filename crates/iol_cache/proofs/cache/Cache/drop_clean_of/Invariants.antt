use Rattle.std.proofs.Common.{◌≡◌, ◌≢◌, ℕ, None, length}
use Rattle.iol_cache.specs.CacheState.{order_in}
use Rattle.iol_cache.specs.Cache.{holding}
use Rattle.iol_cache.proofs.Evictions.OneByOne.{EvictsOn}
use Rattle.iol_cache.proofs.cache.Cache.drop_clean_of.Given as goal

abbrev pub invariant-loop-place : goal.invariant-loop-place
invariant-loop-place l = record {
  on : EvictsOn l.pool None (holding l.fn.store l.fn.self) (holding l.store l.self) l.passed;
  others : (q : ℕ) → q ≢ l.pool → order_in l.self.orders.items q ≡ order_in l.fn.self.orders.items q;
  len : length l.self.orders.items ≡ length l.fn.self.orders.items;
}

abbrev pub decreases-loop-place : goal.decreases-loop-place
decreases-loop-place l = length (order_in l.self.orders.items l.pool).entries
