use Rattle.std.proofs.Common.{◌≤◌, ◌-◌}
use Rattle.iol_tier.specs.Blocks.{MovesPlace}
use Rattle.iol_tier.proofs.borders.shift_right.Given as goal

abbrev pub invariant-loop-at : goal.invariant-loop-at
invariant-loop-at l = record {
  low : l.to ≤ l.at;
  high : l.at ≤ l.from;
  moves : MovesPlace l.from l.at l.fn.blocks.items l.blocks.items;
}

abbrev pub decreases-loop-at : goal.decreases-loop-at
decreases-loop-at l = l.at - l.to
