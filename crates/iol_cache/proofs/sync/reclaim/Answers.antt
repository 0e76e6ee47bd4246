use Rattle.std.proofs.Common.{sym, subst}
use Rattle.iol_evict.specs.Order.{Ranking}
use Rattle.iol_cache.specs.Entries.{Enters, MayEnter}
use Rattle.iol_cache.proofs.RangeWrites.FirstExtent.{may_enter, place_kept, reclaimed}
use Rattle.iol_cache.proofs.sync.reclaim.Goals as goal

pub give_back-requires : goal.give_back-requires
give_back-requires c = place_kept c.requires

pub enter_one-requires : goal.enter_one-requires
enter_one-requires c =
    subst (λ (r : Ranking). MayEnter c.args.file c.args.at c.args.extents.now.extents r c.args.marks.now)
    (sym c.give_back.ensures) (may_enter c.requires)

pub returns : goal.returns
returns c =
    let entered =
    subst (λ (r : Ranking). Enters c.args.file c.args.at c.args.extents.now.extents r c.enter_one.new.order
    c.args.marks.now c.enter_one.new.marks) c.give_back.ensures c.enter_one.ensures in
    reclaimed c.requires c.clean.new.self c.enter_one.new.order c.enter_one.new.marks c.clean.ensures.extents
    c.clean.ensures.apart entered
