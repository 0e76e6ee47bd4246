use Rattle.std.proofs.Common.{ℕ, ◌<◌, ◌≤◌}
use Rattle.iol_tier.specs.Blocks.{Widens, width_at}
use Rattle.iol_tier.proofs.ends.widen_blocks.Given as goal

abbrev pub invariant-loop-at : goal.invariant-loop-at
invariant-loop-at l = record {
  widens : Widens l.fn.blocks.items l.blocks.items;
  wide : (k : ℕ) → k < l.at → l.width ≤ width_at l.blocks.items k;
}
