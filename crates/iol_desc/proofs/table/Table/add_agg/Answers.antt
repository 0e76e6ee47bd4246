use Rattle.std.proofs.Common.{arith}
use Rattle.iol_desc.proofs.LiveCounts.{counted-set, counted_rules}
use Rattle.iol_desc.proofs.Rows.{row_rules}
use Rattle.iol_desc.proofs.table.Table.add_agg.Goals as goal

pub invariant_of-self : goal.invariant_of-self
invariant_of-self g c =
    let row = c.index_mut-domain in
    counted-set _ _ _ row.result.now _ _ c.self.invariant (rw c.self.view_is c.place_of-at.ensures.within)
    row.ensures.value c.add_agg-number.ensures.short (omega arith)

pub overflow_add-self : goal.overflow_add-self
overflow_add-self g c = grind (arith, row_rules, counted_rules)
