use Rattle.iol_tier.proofs.Shifts.{push_step}
use Rattle.iol_tier.proofs.borders.push.Goals as goal

pub returns : goal.returns
returns c =
    push_step c.args.blocks.now.items c.args.at c.pop_back-key.result c.index_mut.result.now c.index_mut-2.result.now
    c.pop_back-key.new.self c.push_front.new.self
    c.requires.within c.index_mut.ensures.value c.pop_back-key.ensures.keys c.pop_back-key.ensures.place
    c.index_mut-2.ensures.value c.push_front.ensures
