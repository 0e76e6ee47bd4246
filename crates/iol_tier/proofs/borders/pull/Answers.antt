use Rattle.iol_tier.proofs.Shifts.{pull_step}
use Rattle.iol_tier.proofs.borders.pull.Goals as goal

pub returns : goal.returns
returns c =
    pull_step c.args.blocks.now.items c.args.at c.pop_front-key.result c.index_mut-2.result.now c.index_mut.result.now
    c.push_back.new.self c.pop_front-key.new.self
    c.requires.within c.index_mut.ensures.value c.pop_front-key.ensures.keys c.pop_front-key.ensures.place
    c.index_mut-2.ensures.value c.push_back.ensures
