-- Names in byte order.
use Rattle.std.proofs.Common.{◌≡◌, ◌≢◌, ℕ, ◌-◌, List, length, All, Some, slice_get, slice_index_or, arith, inl, inr}
use Rattle.std.proofs.Common.{sym, ap, subst, ◌∙◌}
use Rattle.std.proofs.lemmas.Cmp.{tied_itself, nat_list_cmp_total}
use Rattle.std.proofs.lemmas.Bool.{cases_eq}
use Rattle.std.proofs.lemmas.Option.{get_or_from_slice_get}
use Rattle.std.specs.Cmp.Lexicographic.{slice_cmp}
use Rattle.std.specs.Ordering.{nat_cmp, ordering_index}
use Rattle.std.specs.declared.cmp.Ordering.TheVariants.{Equal}
use Rattle.iol_back.specs.Folder.{Precedes, AreRising, AreDistinct}

-- no name is before itself
pub precedes-other : (a b : List ℕ) → Precedes a b → a ≢ b
precedes-other a b before same =
    let tie = subst (λ (y : List ℕ). slice_cmp nat_cmp a y ≡ Equal) same (tied_itself nat_list_cmp_total a) in
    let wrong = ap ordering_index (sym before ∙ tie) in
    omega (arith, wrong)

pub distinct_of_rising : (names : List (List ℕ)) → AreRising names → AreDistinct names
distinct_of_rising names rising i j d below inside = precedes-other _ _ (rising i j d below inside)

-- if the last name is before another name, all names are
pub all_precede : (names : List (List ℕ)) (place : ℕ) (last name : List ℕ) → AreRising names → place ≡ length names - 1
    → slice_get names place ≡ Some last → Precedes last name → All (λ other. Precedes other name) names
all_precede names place last name rising is found before k d inside =
    let end = get_or_from_slice_get names place last d found in
    elim (cases_eq k place) [
      | inl same ↦ subst (λ (y : List ℕ). Precedes y name) (sym (ap (λ (i : ℕ). slice_index_or names i d) same ∙ end))
          before
      | inr other ↦
          nat_list_cmp_total.trans _ last _
          (subst (λ (y : List ℕ). Precedes (slice_index_or names k d) y) end
          (rising k place d (omega (arith, is, inside, other)) (omega (arith, is, inside)))) before
    ]
