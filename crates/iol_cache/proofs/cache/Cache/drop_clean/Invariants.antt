use Rattle.std.proofs.Common.{◌≡◌, ◌<◌, ◌≤◌, [], ℕ, length}
use Rattle.iol_cache.specs.CacheState.{order_in}
use Rattle.iol_cache.specs.Cache.{cached_of, holding}
use Rattle.iol_cache.specs.Evictions.{EvictsPools, GivesUp}
use Rattle.iol_cache.specs.Sound.{IsSound}
use Rattle.iol_cache.proofs.cache.Cache.drop_clean.Given as goal

abbrev pub invariant-loop-i : goal.invariant-loop-i
invariant-loop-i l = record {
  sound : IsSound l.store (cached_of l.self);
  none : (p : ℕ) → 0 < p → p ≤ l.i → (order_in l.self.orders.items p).entries ≡ [];
  len : length l.self.orders.items ≡ length l.fn.self.orders.items;
  victims : EvictsPools l.i (holding l.fn.store l.fn.self) (holding l.store l.self);
  gives_up : GivesUp (holding l.fn.store l.fn.self) (holding l.store l.self);
}
