use Rattle.std.proofs.Common.{◌≤◌, length, vec_len}
use Rattle.iol_core.specs.declared.limits.TheConstants.{MAX_FILES}
use Rattle.iol_back.specs.Lists.{items_of}
use Rattle.iol_tree.proofs.Fillings.{Fills}
use Rattle.iol_tree.proofs.contents.store_of.Given as goal

abbrev pub invariant-loop-bytes : goal.invariant-loop-bytes
invariant-loop-bytes l = record {
  few : length l.contents.items ≤ MAX_FILES;
  fills : Fills (items_of l.fn.contents.items) (items_of l.contents.items) l.slots;
}

abbrev pub decreases-loop-bytes : goal.decreases-loop-bytes
decreases-loop-bytes l = vec_len l.contents
