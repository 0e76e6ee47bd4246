use Rattle.std.proofs.Common.{ap, length}
use Rattle.iol_desc.specs.Tables.{Row}
use Rattle.iol_desc.proofs.LiveCounts.{counted_kept}
use Rattle.iol_desc.proofs.table.Table.set_default.Goals as goal

pub invariant_of-self : goal.invariant_of-self
invariant_of-self g c =
    let row = c.index_mut-domain in
    counted_kept _ _ _ row.result.now _ c.self.invariant (rw c.self.view_is c.place_of-at.ensures.within)
    row.ensures.value (ap (λ (r : Row g.row.A.Denot). length r.domain.aggs) c.domain.view_is)
