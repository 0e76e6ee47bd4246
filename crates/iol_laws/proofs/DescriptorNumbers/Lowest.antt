-- The lowest free index is at most the number of used ones.
use Rattle.std.proofs.Common.{inl, inr, zero, suc, ◌≡◌, ◌≤◌, ℕ, List, [], ◌∷◌, ◌∙◌, refl, subst, arith, Option, Some}
use Rattle.std.proofs.Common.{None}
use Rattle.std.specs.Prelude.{slice_set}
use Rattle.std.proofs.lemmas.Bool.{cases_eq}
use Rattle.std.proofs.lemmas.Bool.Decides.{nat_tests}
use Rattle.std.proofs.lemmas.Grind.{common_steps}
use Rattle.iol_core.specs.NumberedLists.{in_place, lowest, placed, taken}
use Rattle.iol_core.proofs.Places.{place-set_other}
use Rattle.iol_laws.proofs.Places.{place-set_free, placed-cons, placed-none}

module _ {A : Type 0} where
  -- an element at the front increments the lowest free index
  lowest-cons : (x : A) (xs : List (Option A)) → lowest (Some x ∷ xs) ≡ suc (lowest xs)
  lowest-cons x xs = grind (arith, nat_tests, common_steps)

  pub lowest-taken : (xs : List (Option A)) → lowest xs ≤ taken xs
  lowest-taken [] = omega arith
  lowest-taken (None ∷ xs) = (let e : lowest {A = A} (None ∷ xs) ≡ 0 = grind (arith, nat_tests, common_steps) in
      omega (arith, e))
  lowest-taken (Some x ∷ xs) =
      (let e = lowest-cons x xs in let r = lowest-taken xs in let t : taken (Some x ∷ xs) ≡ suc (taken xs) = refl in
      omega (arith, e, r, t))

  pub taken-placed : (xs : List (Option A)) (x : A) → taken (placed xs (lowest xs) x) ≡ suc (taken xs)
  taken-placed [] x = refl
  taken-placed (None ∷ xs) x = rw (placed-none xs x) refl
  taken-placed (Some y ∷ xs) x = (let r = taken-placed xs x in rw (placed-cons y xs x) (omega (arith, r)))

  -- the lowest free index is at most one that was freed
  pub lowest-freed : (xs : List (Option A)) (n : ℕ) (x : A) → in_place xs n ≡ Some x → lowest (slice_set xs n None) ≤ n
  lowest-freed [] n x is = absurd (cc)
  lowest-freed (z ∷ xs) zero x is = (let e : lowest {A = A} (None ∷ xs) ≡ 0 = grind (arith, nat_tests, common_steps) in
      omega (arith, e))
  lowest-freed (None ∷ xs) (suc n) x is =
      (let e : lowest {A = A} (None ∷ slice_set xs n None) ≡ 0 = grind (arith, nat_tests, common_steps) in
      omega (arith, e))
  lowest-freed (Some z ∷ xs) (suc n) x is =
      (let e = lowest-cons z (slice_set xs n None) in let r = lowest-freed xs n x is in omega (arith, e, r))

  -- a free index stays free when another one is freed
  pub free-freed : (xs : List (Option A)) (n m : ℕ) → in_place xs m ≡ None → in_place (slice_set xs n None) m ≡ None
  free-freed xs n m none = elim (cases_eq n m) [
    | inl same ↦ subst (λ k. in_place (slice_set xs n None) k ≡ None) same (place-set_free xs n)
    | inr differ ↦ place-set_other xs n m None differ ∙ none
  ]
