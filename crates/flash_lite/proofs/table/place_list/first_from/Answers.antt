use Rattle.std.proofs.Common.{sym, nat_le}
use Rattle.flash_lite.proofs.Marks.{found_at, found_none}
use Rattle.flash_lite.proofs.table.place_list.first_from.Goals as goal

pub returns-then-at-places : goal.returns-then-at-places
returns-then-at-places c =
    sym (found_at (λ k. nat_le c.args.from k) c.args.places.now c.count_below-at.result 0 c.count_below-at.ensures.rest
    c.if-at-places.true)

pub returns-else-at-places : goal.returns-else-at-places
returns-else-at-places c =
    sym (found_none (λ k. nat_le c.args.from k) c.args.places.now c.count_below-at.result c.count_below-at.ensures.rest
    c.if-at-places.false)
