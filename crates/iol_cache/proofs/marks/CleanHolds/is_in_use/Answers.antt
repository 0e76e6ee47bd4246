use Rattle.std.proofs.Common.{arith, ap, length}
use Rattle.iol_cache.proofs.Evictions.Marks.{within_at, held_at}
use Rattle.iol_cache.proofs.marks.CleanHolds.is_in_use.Goals as goal

pub is_held_more-requires-clause-within : goal.is_held_more-requires-clause-within
is_held_more-requires-clause-within c =
    let w = within_at (length c.args.self.now) c.args.slices.now c.loop-slice.slice-index c.slice-item.result
    c.requires.within c.loop-slice-test.true c.slice-item.is in
    omega (arith, w, ap length c.self.view_is)

pub is_held_more-requires-clause-live : goal.is_held_more-requires-clause-live
is_held_more-requires-clause-live c =
    held_at c.args.store.now c.args.slices.now c.loop-slice.slice-index c.slice-item.result c.requires.covered
    c.loop-slice-test.true c.slice-item.is
