use Rattle.std.proofs.Common.{◌≡◌, length, map, take}
use Rattle.iol_back.specs.Lists.{items_of}
use Rattle.iol_tree.specs.Index.{file_lengths}
use Rattle.iol_tree.proofs.contents.read_all.Given as goal

abbrev pub invariant-loop-place : goal.invariant-loop-place
invariant-loop-place g l = map length (items_of l.contents.items) ≡ take l.place (file_lengths l.index)
