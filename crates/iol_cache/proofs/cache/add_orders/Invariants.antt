use Rattle.std.proofs.Common.{◌≡◌, ◌-◌, ◌≤◌, ℕ, max, length, vec_len, vec_capacity}
use Rattle.iol_cache.specs.CacheState.{order_in}
use Rattle.iol_cache.proofs.cache.add_orders.Given as goal

abbrev pub invariant-loop-alloc : goal.invariant-loop-alloc
invariant-loop-alloc l = record {
  same : (p : ℕ) → order_in l.orders.items p ≡ order_in l.fn.orders.items p;
  no_fewer : length l.fn.orders.items ≤ length l.orders.items;
  no_more : length l.orders.items ≤ max l.count (length l.fn.orders.items);
  room : l.count ≤ vec_capacity l.orders;
}

abbrev pub decreases-loop-alloc : goal.decreases-loop-alloc
decreases-loop-alloc l = l.count - vec_len l.orders
