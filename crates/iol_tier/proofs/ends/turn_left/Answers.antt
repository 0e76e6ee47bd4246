use Rattle.iol_tier.proofs.EmptyBlocks.{turned_left}
use Rattle.iol_tier.proofs.ends.turn_left.Goals as goal

pub returns-in-Some : goal.returns-in-Some
returns-in-Some c =
    rw c.push_back_reserved.ensures.items
    (turned_left c.args.blocks.now.items c.pop_front.new.self.items c.in-Some.block c.args.skip c.in-Some.ensures.items
    c.requires.laid.filled c.requires.empty c.requires.laid.places)
