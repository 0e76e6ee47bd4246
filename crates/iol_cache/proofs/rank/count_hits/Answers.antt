use Rattle.iol_cache.proofs.Evictions.Entries.{hit_there}
use Rattle.iol_cache.proofs.rank.count_hits.Goals as goal

pub hit-requires : goal.hit-requires
hit-requires c =
    hit_there c.loop-hit.order c.args.file c.args.extents.now.extents _ _ c.requires.apart c.loop-hit.invariant.ranked
    c.in-Some.ensures.extent c.if-not-dirty.true
