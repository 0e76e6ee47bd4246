use Rattle.std.proofs.Common.{◌∙◌, true≢false, sym}
use Rattle.iol_tree.proofs.SameNames.{names_decide}
use Rattle.iol_tree.proofs.SameStamps.{stamps_decide}
use Rattle.iol_tree.proofs.index.Index.is_same.Goals as goal

pub returns-then-eq : goal.returns-then-eq
returns-then-eq c =
    let names = names_decide c.self.inside.names.items c.other.inside.names.items in
    let stamps = stamps_decide c.self.inside.stamps.items c.other.inside.stamps.items in
    rw (← c.self.view_is, ← c.other.view_is) (
      (λ yes. (names.0 (sym c.eq.ensures ∙ c.if-eq.true), stamps.0 (sym c.eq-then-eq.ensures ∙ yes))),
      (λ same. c.eq-then-eq.ensures ∙ stamps.1 same.1),
    )

pub returns-else-eq : goal.returns-else-eq
returns-else-eq c =
    let names = names_decide c.self.inside.names.items c.other.inside.names.items in
    rw (← c.self.view_is, ← c.other.view_is) (
      (λ yes. absurd (true≢false (sym yes ∙ c.if-eq.false))),
      (λ same. c.eq.ensures ∙ names.1 same.0),
    )
