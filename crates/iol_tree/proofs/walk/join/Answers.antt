use Rattle.std.proofs.Common.{◌≡◌, ◌∙◌, ℕ, List, IfOk, string_bytes, subst, sym}
use Rattle.iol_tree.proofs.Paths.{path_of_both}
use Rattle.iol_tree.proofs.walk.join.Goals as goal

pub returns : goal.returns
returns c =
    let path = path_of_both c.args.above.now c.args.below.now (sym c.is_empty.ensures ∙ c.if-is_empty.false)
    (sym c.is_empty-2.ensures ∙ c.if-is_empty-2.false) in
    subst (λ (p : List ℕ). IfOk c.with_slash.result (λ path. string_bytes path ≡ p)) (sym path) c.with_slash.ensures
