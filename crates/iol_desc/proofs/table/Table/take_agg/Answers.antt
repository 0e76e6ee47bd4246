use Rattle.std.proofs.Common.{arith}
use Rattle.iol_desc.proofs.LiveCounts.{counted_fewer}
use Rattle.iol_desc.proofs.table.Table.take_agg.Goals as goal

pub invariant_of-self : goal.invariant_of-self
invariant_of-self g c =
    let row = c.index_mut-domain in
    (counted_fewer _ _ _ row.result.now _ _ c.self.invariant (rw c.self.view_is c.place_of-at.ensures.within)
    row.ensures.value (omega (arith, c.take_agg-given.ensures.count))).1
