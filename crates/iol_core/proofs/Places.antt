-- Elements by index after a change.
use Rattle.std.proofs.Common.{inl, inr, ◌≡◌, ◌≢◌, ℕ, zero, suc, ◌⊎◌, List, [], ◌∷◌, ◌++◌, length, ◌∙◌, sym, subst}
use Rattle.std.proofs.Common.{arith, Option, Some, None, true, false, Bool}
use Rattle.std.specs.Prelude.{slice_set, nat_lt, if◌then◌else◌}
use Rattle.std.proofs.lemmas.Bool.{cases_eq}
use Rattle.std.proofs.lemmas.Bool.Decides.{nat_tests}
use Rattle.std.proofs.lemmas.Grind.{common_steps}
use Rattle.iol_core.specs.NumberedLists.{in_place, placed}

pub place-set_other : {A : Type 0} (xs : List (Option A)) (n m : ℕ) (o : Option A) → n ≢ m
    → in_place (slice_set xs n o) m ≡ in_place xs m
place-set_other xs n m o differ = grind (arith, nat_tests, common_steps, differ)

-- after the element at n is set, that at m is the new one, or it was there before
pub place-set : {A : Type 0} (xs : List (Option A)) (n m : ℕ) (x y : A) → in_place (slice_set xs n (Some x)) m ≡ Some y
    → (x ≡ y) ⊎ (in_place xs m ≡ Some y)
place-set {A = A} xs n m x y is = elim (cases_eq n m) [
  | inr differ ↦ inr (sym (place-set_other xs n m (Some x) differ) ∙ is)
  | inl same ↦ here xs n (subst (λ k. in_place (slice_set xs n (Some x)) k ≡ Some y) (sym same) is)
]
  where
    here : (ys : List (Option A)) (k : ℕ) → in_place (slice_set ys k (Some x)) k ≡ Some y
        → (x ≡ y) ⊎ (in_place xs m ≡ Some y)
    here [] k is = absurd (cc)
    here (z ∷ ys) zero is = inl (grind (arith, is))
    here (z ∷ ys) (suc k) is = here ys k is

pub place-freed : {A : Type 0} (xs : List (Option A)) (n m : ℕ) (y : A) → in_place (slice_set xs n None) m ≡ Some y
    → in_place xs m ≡ Some y
place-freed {A = A} xs n m y is = elim (cases_eq n m) [
  | inr differ ↦ sym (place-set_other xs n m None differ) ∙ is
  | inl same ↦ absurd (none xs n (subst (λ k. in_place (slice_set xs n None) k ≡ Some y) (sym same) is))
]
  where
    none : (ys : List (Option A)) (k : ℕ) → in_place (slice_set ys k None) k ≡ Some y → ⊥
    none [] k is = cc
    none (z ∷ ys) zero is = cc
    none (z ∷ ys) (suc k) is = none ys k is

place-push : {A : Type 0} (xs : List (Option A)) (m : ℕ) (x y : A) → in_place (xs ++ Some x ∷ []) m ≡ Some y
    → (x ≡ y) ⊎ (in_place xs m ≡ Some y)
place-push [] zero x y is = inl (grind (arith, is))
place-push [] (suc m) x y is = absurd (cc)
place-push (z ∷ xs) zero x y is = inr is
place-push (z ∷ xs) (suc m) x y is = place-push xs m x y is

pub place-placed : {A : Type 0} (xs : List (Option A)) (n m : ℕ) (x y : A) → in_place (placed xs n x) m ≡ Some y
    → (x ≡ y) ⊎ (in_place xs m ≡ Some y)
place-placed {A = A} xs n m x y = by (nat_lt n (length xs))
  where
    by : (b : Bool) → in_place (if b then slice_set xs n (Some x) else xs ++ Some x ∷ []) m ≡ Some y
        → (x ≡ y) ⊎ (in_place xs m ≡ Some y)
    by true = place-set xs n m x y
    by false = place-push xs m x y
