use Rattle.std.proofs.Common.{◌≡◌, ◌≤◌, take}
use Rattle.std.specs.VecDeque.{deque_len, deque_capacity}
use Rattle.iol_evict.specs.declared.entry.By.TheVariants.{Height}
use Rattle.iol_evict.specs.Indexes.{IsRising, HaveSameKeys}
use Rattle.iol_evict.proofs.lower.insert_all.Given as goal

abbrev pub invariant-loop-i : goal.invariant-loop-i
invariant-loop-i l = record {
  rising : IsRising Height l.slab l.by_height.items;
  same : HaveSameKeys (take l.i l.keys.items) l.by_height.items;
  len : deque_len l.by_height ≡ l.i;
  capacity : deque_capacity l.fn.by_height ≤ deque_capacity l.by_height;
}
