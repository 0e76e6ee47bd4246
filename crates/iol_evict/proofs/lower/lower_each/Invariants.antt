use Rattle.iol_evict.specs.Indexes.{Lowers}
use Rattle.iol_evict.proofs.lower.lower_each.Given as goal

abbrev pub invariant-loop-i : goal.invariant-loop-i
invariant-loop-i l = Lowers l.low l.keys.items l.i l.fn.slab l.slab
