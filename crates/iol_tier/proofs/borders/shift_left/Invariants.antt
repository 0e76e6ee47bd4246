use Rattle.iol_tier.specs.Blocks.{MovesPlace}
use Rattle.iol_tier.proofs.borders.shift_left.Given as goal

abbrev pub invariant-loop-at : goal.invariant-loop-at
invariant-loop-at l = MovesPlace l.from l.at l.fn.blocks.items l.blocks.items
