use Rattle.std.proofs.Common.{◌≡◌, ◌≤◌, ◌*◌, length}
use Rattle.std.specs.List.{filter, range_with_len}
use Rattle.iol_hold.specs.Reclaimable.{is_reclaimable}
use Rattle.iol_hold.proofs.store.Store.reclaimable_in.Given as goal

abbrev pub invariant-loop-i : goal.invariant-loop-i
invariant-loop-i l = record {
  found : l.count ≡ length (filter (is_reclaimable l.self l.spared) (range_with_len (l.chunk * 16) l.i));
  few : l.count ≤ l.i;
}
