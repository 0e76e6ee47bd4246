use Rattle.std.proofs.Common.{◌-◌, length}
use Rattle.iol_tier.specs.Blocks.{AddsBlocks}
use Rattle.iol_tier.proofs.ends.add_blocks.Given as goal

abbrev pub invariant-loop-alloc : goal.invariant-loop-alloc
invariant-loop-alloc l = AddsBlocks l.count l.width l.fn.blocks.items l.blocks.items

abbrev pub decreases-loop-alloc : goal.decreases-loop-alloc
decreases-loop-alloc l = l.count - length l.blocks.items
