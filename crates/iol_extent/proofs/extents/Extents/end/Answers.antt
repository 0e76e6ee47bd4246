use Rattle.std.proofs.Common.{◌≡◌, ◌∙◌, ◌-◌, ◌<◌, [], ◌∷◌, List, ℕ, length, get_or, refl, ap, sym, subst, arith}
use Rattle.iol_extent.specs.Extents.{Extent, ExtentMap, IsApart, end_of, last_end}
use Rattle.iol_extent.proofs.Cover.{last_end-last}
use Rattle.iol_extent.proofs.extents.Extents.end.Goals as goal

last_is : (es : List Extent) (n : ℕ) (x : Extent) → IsApart 0 es → n ≡ length es → 0 < n → x ≡ get_or es (n - 1) x
    → last_end es ≡ end_of x
last_is es n x a is some at = last_end-last 0 es x a (subst (λ (m : ℕ). 0 < m) is some)
    ∙ ap (λ m. end_of (get_or es (m - 1) x)) (sym is) ∙ ap end_of (sym at)

none_is : (es : List Extent) → length es ≡ 0 → last_end es ≡ 0
none_is [] h = refl
none_is (x ∷ xs) h = absurd (omega (arith, h))

pub returns-then-count-eq0 : goal.returns-then-count-eq0
returns-then-count-eq0 c =
    let es = c.self.inside.pieces.extents in
    sym (none_is es (omega (arith, c.len-count.ensures, c.if-count-eq0.true)))
    ∙ ap (λ (m : ExtentMap). last_end m.extents) c.self.view_is

pub returns : goal.returns
returns c =
    let es = c.self.inside.pieces.extents in
    let long : c.len-count.result ≡ length es = omega (arith, c.len-count.ensures) in
    c.end.ensures
    ∙ sym (last_is es c.len-count.result c.index-piece.result.now c.self.invariant.apart long
    (omega (arith, c.if-count-eq0.false)) c.index-piece.ensures)
    ∙ ap (λ (m : ExtentMap). last_end m.extents) c.self.view_is
