use Rattle.iol_tree.proofs.Parts.{ArePart}
use Rattle.iol_tree.proofs.index.Index.readable.Given as goal

abbrev pub invariant-loop-place : goal.invariant-loop-place
invariant-loop-place g l = ArePart l.fn.self l.place l.index
