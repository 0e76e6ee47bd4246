use Rattle.iol_tier.proofs.EmptyBlocks.{turned_right}
use Rattle.iol_tier.proofs.ends.turn_right.Goals as goal

pub returns-in-Some : goal.returns-in-Some
returns-in-Some c =
    rw c.push_front_reserved.ensures.items
    (turned_right c.args.blocks.now.items c.pop_back.new.self.items c.in-Some.block c.args.skip c.in-Some.ensures.items
    c.requires.laid.filled c.requires.empty)
