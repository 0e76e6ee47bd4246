use Rattle.std.proofs.Common.{◌∙◌, arith, map}
use Rattle.std.proofs.lemmas.Grind.{common_steps}
use Rattle.iol_tree.proofs.Totals.{total_more}
use Rattle.iol_tree.proofs.index.Index.total.Goals as goal

pub loop-stamp-preserved : goal.loop-stamp-preserved
loop-stamp-preserved c =
    c.saturating_add-total.ensures
    ∙ total_more (map (λ s. s.length) c.deref-stamp-items.result.now) c.loop-stamp.stamp-index c.loop-stamp.total
    c.from.result
    18446744073709551615 (grind (arith, common_steps, c.loop-stamp-test.true))
    (grind (arith, common_steps, c.loop-stamp-test.true, c.stamp-item.is, c.from.ensures, c.length.ensures.length))
    c.loop-stamp.invariant
