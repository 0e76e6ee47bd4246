-- Lists whose elements all pass a test, and refusals whose conditions did not hold.
use Rattle.std.proofs.Common.{inl, inr, ◌≡◌, ℕ, suc, zero, cond, List, [], ◌∷◌, ◌++◌, take, drop, ap, ◌∙◌, refl, arith}
use Rattle.std.proofs.Common.{Option, Some, None, true, false, Bool}
use Rattle.std.specs.Prelude.{option_map, not, slice_index_or, unwrap_or, take_while}
use Rattle.std.specs.List.{list_all}
use Rattle.std.proofs.lemmas.Bool.{cases_eq}
use Rattle.std.proofs.lemmas.Bool.Decides.{nat_tests}
use Rattle.std.proofs.lemmas.Grind.{common_steps}
use Rattle.std.proofs.lemmas.List.Folds.{list_all-append}
use Rattle.std.proofs.lemmas.List.Sums.{take_while-cons}
use Rattle.iol_core.specs.Text.{Text, labelled, barred}
use Rattle.iol_core.specs.NumberedLists.{lookup, without}
use Rattle.iol_core.specs.Meaning.{first, ◌when◌}
use Rattle.iol_core.specs.declared.refusals.Refusal.{Refusal}
use Rattle.iol_core.specs.declared.refusals.Refusal.TheVariants.{Denied}

pub list_all-weaker : {A : Type 0} (p q : A → Bool) (xs : List A) → ((x : A) → p x ≡ true → q x ≡ true)
    → list_all p xs ≡ true → list_all q xs ≡ true
list_all-weaker p q [] more all = refl
list_all-weaker p q (x ∷ xs) more all =
    let r = list_all-weaker p q xs more in
    let m = more x in
    grind (arith, nat_tests, common_steps, r, m, all)

pub list_all-take : {A : Type 0} (p : A → Bool) (n : ℕ) (xs : List A) → list_all p xs ≡ true
    → list_all p (take n xs) ≡ true
list_all-take p zero xs all = refl
list_all-take p (suc n) [] all = refl
list_all-take p (suc n) (x ∷ xs) all = let r = list_all-take p n xs in grind (arith, nat_tests, common_steps, r, all)

pub list_all-drop : {A : Type 0} (p : A → Bool) (n : ℕ) (xs : List A) → list_all p xs ≡ true
    → list_all p (drop n xs) ≡ true
list_all-drop p zero xs all = all
list_all-drop p (suc n) [] all = refl
list_all-drop p (suc n) (x ∷ xs) all = let r = list_all-drop p n xs in grind (arith, nat_tests, common_steps, r, all)

pub list_all-take_while : {A : Type 0} (p : A → Bool) (xs : List A) → list_all p (take_while p xs) ≡ true
list_all-take_while p [] = refl
list_all-take_while {A} p (x ∷ xs) = ap (list_all p) (take_while-cons p x xs) ∙ by (p x) refl (list_all-take_while p xs)
  where
    by : (b : Bool) → p x ≡ b → list_all p (take_while p xs) ≡ true
        → list_all p (cond b (x ∷ take_while p xs) []) ≡ true
    by true e r = rw e r
    by false e r = refl

pub list_all-both : {A : Type 0} (p : A → Bool) (xs ys : List A) → list_all p xs ≡ true → list_all p ys ≡ true
    → list_all p (xs ++ ys) ≡ true
list_all-both p xs ys left right = let e = list_all-append p xs ys in
    grind (arith, nat_tests, common_steps, e, left, right)

pub list_all-pair : {A : Type 0} (p : A → Bool) (x y : A) → p x ≡ true → p y ≡ true → list_all p (x ∷ y ∷ []) ≡ true
list_all-pair p x y first second = grind (arith, nat_tests, common_steps, first, second)

pub list_all-push : {A : Type 0} (p : A → Bool) (xs : List A) (x : A) → list_all p xs ≡ true → p x ≡ true
    → list_all p (xs ++ x ∷ []) ≡ true
list_all-push p xs x all one = let e = list_all-append p xs (x ∷ []) in
    grind (arith, nat_tests, common_steps, e, all, one)

pub list_all-without : {A : Type 0} (p : (ℕ × A) → Bool) (es : List (ℕ × A)) (n : ℕ) → list_all p es ≡ true
    → list_all p (without es n) ≡ true
list_all-without p [] n all = refl
list_all-without p (e ∷ es) n all =
    let r = list_all-without p es n in
    elim (cases_eq e.0 n) [
      | inl k ↦ grind (arith, nat_tests, common_steps, all, k)
      | inr k ↦
          grind (arith, nat_tests, common_steps, r, all, k)
    ]

pub list_all-lookup : {A : Type 0} (p : A → Bool) (es : List (ℕ × A)) (n : ℕ) (z : A) → p z ≡ true
    → list_all (λ e. p e.1) es ≡ true → p (unwrap_or (lookup es n) z) ≡ true
list_all-lookup p [] n z none all = none
list_all-lookup p (e ∷ es) n z none all =
    let r = list_all-lookup p es n z none in
    elim (cases_eq e.0 n) [
      | inl k ↦ grind (arith, nat_tests, common_steps, all, k)
      | inr k ↦
          grind (arith, nat_tests, common_steps, r, all, k)
    ]

pub list_all-labelled : (f : ℕ → Bool) (p : ℕ) (bytes : List ℕ) → f p ≡ true
    → list_all (λ b. f b.1) (labelled p bytes) ≡ true
list_all-labelled f p [] may = refl
list_all-labelled f p (x ∷ bytes) may = let r = list_all-labelled f p bytes may in
    grind (arith, nat_tests, common_steps, r, may)

-- if no byte is barred, each may be read
pub list_all-barred : (may : ℕ → Bool) (t : Text) → option_map Denied (barred may t) ≡ None
    → list_all (λ b. may b.1) t ≡ true
list_all-barred may [] none = refl
list_all-barred may (b ∷ t) none = cases (may b.1) refl (list_all-barred may t)
  where
    cases : (m : Bool) → may b.1 ≡ m → (option_map Denied (barred may t) ≡ None → list_all (λ c. may c.1) t ≡ true)
        → list_all (λ c. may c.1) (b ∷ t) ≡ true
    cases true is r = grind (arith, nat_tests, common_steps, is, r, none)
    cases false is r = grind (arith, nat_tests, common_steps, is, none)

-- Refusals that did not hold.

pub passed : (xs : List (Option Refusal)) (i : ℕ) → first xs ≡ None → slice_index_or xs i None ≡ None
passed [] i none = refl
passed (Some x ∷ xs) i none = absurd (cc)
passed (None ∷ xs) zero none = refl
passed (None ∷ xs) (suc i) none = passed xs i none

pub when-none : (x : Refusal) (b : Bool) → (x when b) ≡ None → b ≡ false
when-none x true none = absurd (cc)
when-none x false none = refl

pub when-not : (x : Refusal) (b : Bool) → (x when not b) ≡ None → b ≡ true
when-not x true none = refl
when-not x false none = absurd (cc)
