use Rattle.std.proofs.Common.{ap, arith, length}
use Rattle.iol_core.specs.State.{Domain}
use Rattle.iol_desc.proofs.LiveCounts.{counted_fewer}
use Rattle.iol_desc.proofs.table.Table.take_aggs.Goals as goal

pub invariant_of-self : goal.invariant_of-self
invariant_of-self g c =
    let row = c.index_mut-domain in
    let none = ap (λ (d : Domain g.row.A.Denot). length d.aggs) c.take_aggs-given.ensures.rest in
    (counted_fewer _ _ _ row.result.now _ _ c.self.invariant (rw c.self.view_is c.place_of-at.ensures.within)
    row.ensures.value (omega (arith, none, c.agg_count-count.ensures))).1
