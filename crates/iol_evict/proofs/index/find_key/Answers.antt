use Rattle.iol_evict.proofs.Places.{finds}
use Rattle.iol_evict.proofs.index.find_key.Goals as goal

pub returns : goal.returns
returns c = finds _ _ _ _ _ _ c.requires.index.rising c.requires.there c.position.ensures c.index.ensures
