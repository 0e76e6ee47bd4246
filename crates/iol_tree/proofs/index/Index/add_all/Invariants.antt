use Rattle.std.proofs.Common.{◌≡◌, ◌+◌, length}
use Rattle.iol_tree.specs.Index.{ListsOrCounts}
use Rattle.iol_tree.proofs.index.Index.add_all.Given as goal

abbrev pub invariant-loop-name : goal.invariant-loop-name
invariant-loop-name g l = record {
  lists : ListsOrCounts (length l.yielded) l.fn.self l.self;
  count : length l.yielded + length l.name-iterator.rest.items ≡ length l.fn.names.items;
}
