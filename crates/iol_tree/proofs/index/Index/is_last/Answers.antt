use Rattle.std.proofs.Common.{ℕ, ◌-◌, ◌∙◌, sym, ap, refl}
use Rattle.iol_back.proofs.Names.{all_precede}
use Rattle.iol_tree.proofs.index.Index.is_last.Goals as goal

pub returns-in-Less : goal.returns-in-Less
returns-in-Less c = (
  (λ yes. all_precede _ _ c.name.result.now _ c.count-count.ensures.names.rising
      (ap (λ (k : ℕ). k - 1) c.count-count.ensures.count) c.name.ensures (sym c.cmp.ensures ∙ c.in-Less.is)),
  (λ all. refl),
)
