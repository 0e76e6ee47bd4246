use Rattle.std.proofs.Common.{◌≡◌, ◌≤◌, take, length}
use Rattle.iol_core.specs.Calls.Pools.{distinct}
use Rattle.iol_pool.proofs.names.note_distinct.Given as goal

abbrev pub invariant-loop-d : goal.invariant-loop-d
invariant-loop-d l = record {
  found : take l.count l.found ≡ distinct (take l.d-index l.list);
  count : l.count ≡ length (distinct (take l.d-index l.list));
  few : l.count ≤ 16;
}
