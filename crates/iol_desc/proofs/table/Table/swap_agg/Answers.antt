use Rattle.iol_desc.proofs.LiveCounts.{counted_kept}
use Rattle.iol_desc.proofs.table.Table.swap_agg.Goals as goal

pub invariant_of-self : goal.invariant_of-self
invariant_of-self g c =
    let row = c.index_mut-domain in
    counted_kept _ _ _ row.result.now _ c.self.invariant (rw c.self.view_is c.place_of-at.ensures.within)
    row.ensures.value c.swap_agg.ensures.kept.count
