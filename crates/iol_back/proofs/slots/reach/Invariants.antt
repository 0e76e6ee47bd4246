use Rattle.std.proofs.Common.{◌-◌, ◌≤◌, length}
use Rattle.std.specs.Vec.{vec_len}
use Rattle.iol_core.specs.declared.limits.TheConstants.{MAX_FILES}
use Rattle.iol_back.specs.Disk.{AllStay}
use Rattle.iol_back.specs.Lists.{items_of}
use Rattle.iol_back.proofs.slots.reach.Given as goal

abbrev pub invariant-loop-alloc : goal.invariant-loop-alloc
invariant-loop-alloc l = record {
  no_fewer : length l.fn.lists.items ≤ length l.lists.items;
  few : length l.lists.items ≤ MAX_FILES;
  stay : AllStay (items_of l.fn.lists.items) (items_of l.lists.items);
}

abbrev pub decreases-loop-alloc : goal.decreases-loop-alloc
decreases-loop-alloc l = l.number - vec_len l.lists
