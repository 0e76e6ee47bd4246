-- Places that are taken or free.
use Rattle.std.proofs.Common.{◌≡◌, ◌≢◌, ℕ, zero, suc, ◌+◌, ◌≤◌, ◌<◌, List, [], ◌∷◌, ◌++◌, length, drop, Option, Some}
use Rattle.std.proofs.Common.{None, arith, refl}
use Rattle.std.specs.Prelude.{slice_set}
use Rattle.std.proofs.lemmas.Bool.Decides.{nat_tests}
use Rattle.std.proofs.lemmas.Grind.{common_steps}
use Rattle.std.proofs.lemmas.List.Sums.{prefix_len-le-length, prefix_len-drop_yes, prefix_len-drop_no}
use Rattle.std.proofs.lemmas.List.Sums.{prefix_len-drop_all}
use Rattle.iol_core.specs.NumberedLists.{in_place, lowest, taken, placed}

pub lowest_le-taken : {A : Type 0} (xs : List (Option A)) → lowest xs ≤ taken xs
lowest_le-taken [] = omega arith
lowest_le-taken (None ∷ xs) = omega arith
lowest_le-taken (Some x ∷ xs) = omega (arith, lowest_le-taken xs)

taken-push : {A : Type 0} (xs : List (Option A)) (x : A) → taken (xs ++ Some x ∷ []) ≡ taken xs + 1
taken-push [] x = refl
taken-push (None ∷ xs) x = taken-push xs x
taken-push (Some y ∷ xs) x = omega (arith, taken-push xs x)

taken-set : {A : Type 0} (xs : List (Option A)) (x : A) → lowest xs < length xs
    → taken (slice_set xs (lowest xs) (Some x)) ≡ taken xs + 1
taken-set [] x lt = absurd (omega arith)
taken-set (None ∷ xs) x lt = omega arith
taken-set (Some y ∷ xs) x lt = rw (one_more (lowest xs)) (omega (arith, taken-set xs x (omega arith)))
  where
    one_more : (n : ℕ) → 1 + n ≡ suc n
    one_more n = omega arith

pub taken_set_at : {A : Type 0} (xs : List (Option A)) (n : ℕ) (x : A) → n < length xs → n ≡ lowest xs
    → taken (slice_set xs n (Some x)) ≡ taken xs + 1
taken_set_at xs n x lt is = rw is (taken-set xs x (omega arith))

pub taken_placed : {A : Type 0} (xs : List (Option A)) (x : A) → taken (placed xs (lowest xs) x) ≡ taken xs + 1
taken_placed xs x = grind (arith, nat_tests, taken-set xs x, taken-push xs x)

pub lowest_freed : {A : Type 0} (xs : List (Option A)) (n : ℕ) → n < length xs → lowest (slice_set xs n None) ≤ n
lowest_freed [] n lt = absurd (omega arith)
lowest_freed (x ∷ xs) zero lt = omega arith
lowest_freed (None ∷ xs) (suc n) lt = omega arith
lowest_freed (Some x ∷ xs) (suc n) lt = omega (arith, lowest_freed xs n (omega arith))

pub placed_at : {A : Type 0} (xs : List (Option A)) (n m k : ℕ) (x : A) → m ≡ n → n < length xs
    → k ≡ lowest (slice_set xs m None) → (k < length (slice_set xs m None))
    × (slice_set (slice_set xs m None) k (Some x) ≡ placed (slice_set xs n None) (lowest (slice_set xs n None)) x)
placed_at xs n m k x same lt is =
    let low : lowest (slice_set xs n None) ≤ n = lowest_freed xs n lt in
    rw (is, same) (grind (arith, nat_tests, common_steps, low), grind (arith, nat_tests, common_steps, low))

-- The lowest free place, searched from a place that is not above it.

pub lowest_from : {A : Type 0} (xs : List (Option A)) (n : ℕ) → n ≤ lowest xs → n + lowest (drop n xs) ≡ lowest xs
lowest_from xs zero le = omega arith
lowest_from [] (suc n) le = absurd (omega arith)
lowest_from (None ∷ xs) (suc n) le = absurd (omega arith)
lowest_from (Some x ∷ xs) (suc n) le = omega (arith, lowest_from xs n (omega arith))

pub taken_le-length : {A : Type 0} (xs : List (Option A)) → taken xs ≤ length xs
taken_le-length [] = omega arith
taken_le-length (None ∷ xs) = omega (arith, taken_le-length xs)
taken_le-length (Some x ∷ xs) = omega (arith, taken_le-length xs)

pub taken_drop : {A : Type 0} (xs : List (Option A)) (n : ℕ) → taken (drop n xs) ≤ taken xs
taken_drop xs zero = omega arith
taken_drop [] (suc n) = omega arith
taken_drop (None ∷ xs) (suc n) = omega (arith, taken_drop xs n)
taken_drop (Some x ∷ xs) (suc n) = omega (arith, taken_drop xs n)

pub low-placed : {A : Type 0} (xs : List (Option A)) (x : A) → lowest xs + 1 ≤ lowest (placed xs (lowest xs) x)
low-placed [] x = omega arith
low-placed (None ∷ xs) x = grind (arith, nat_tests, common_steps)
low-placed (Some y ∷ xs) x = grind (arith, nat_tests, common_steps, low-placed xs x)

pub taken-freed : {A : Type 0} (xs : List (Option A)) (n : ℕ) → in_place xs n ≢ None
    → taken (slice_set xs n None) + 1 ≡ taken xs
taken-freed [] n there = absurd (there refl)
taken-freed (None ∷ xs) zero there = absurd (there refl)
taken-freed (Some x ∷ xs) zero there = omega arith
taken-freed (None ∷ xs) (suc n) there = taken-freed xs n there
taken-freed (Some x ∷ xs) (suc n) there = omega (arith, taken-freed xs n there)

pub low-freed : {A : Type 0} (xs : List (Option A)) (n k : ℕ) → k ≤ lowest xs → k ≤ n → k ≤ lowest (slice_set xs n None)
low-freed xs n zero low le = omega arith
low-freed [] n (suc k) low le = absurd (omega arith)
low-freed (x ∷ xs) zero (suc k) low le = absurd (omega arith)
low-freed (None ∷ xs) (suc n) (suc k) low le = absurd (omega arith)
low-freed (Some x ∷ xs) (suc n) (suc k) low le = omega (arith, low-freed xs n k (omega arith) (omega arith))

pub within_place : {A : Type 0} (xs : List (Option A)) (n : ℕ) → in_place xs n ≢ None → n < length xs
within_place [] n there = absurd (there refl)
within_place (x ∷ xs) zero there = omega arith
within_place (x ∷ xs) (suc n) there = omega (arith, within_place xs n there)

-- A taken place gets another value.

pub taken-replaced : {A : Type 0} (xs : List (Option A)) (n : ℕ) (x : A) → in_place xs n ≢ None
    → taken (slice_set xs n (Some x)) ≡ taken xs
taken-replaced [] n x there = refl
taken-replaced (None ∷ xs) zero x there = absurd (there refl)
taken-replaced (Some y ∷ xs) zero x there = refl
taken-replaced (None ∷ xs) (suc n) x there = taken-replaced xs n x there
taken-replaced (Some y ∷ xs) (suc n) x there = omega (arith, taken-replaced xs n x there)

pub lowest-replaced : {A : Type 0} (xs : List (Option A)) (n : ℕ) (x : A) → in_place xs n ≢ None
    → lowest (slice_set xs n (Some x)) ≡ lowest xs
lowest-replaced [] n x there = refl
lowest-replaced (None ∷ xs) zero x there = absurd (there refl)
lowest-replaced (Some y ∷ xs) zero x there = refl
lowest-replaced (None ∷ xs) (suc n) x there = refl
lowest-replaced (Some y ∷ xs) (suc n) x there = omega (arith, lowest-replaced xs n x there)

pub ruleset lowest_rules = (lowest_le-taken, prefix_len-drop_yes, prefix_len-drop_no, prefix_len-drop_all)

pub ruleset put_rules = (taken_placed, taken_set_at)

pub ruleset from_rules = (lowest_from, taken_drop, lowest_le-taken, prefix_len-le-length)

pub ruleset method_rules = (low-placed, taken_placed, taken_le-length, lowest_le-taken)

pub ruleset free_rules = (taken-freed, low-freed, within_place)

pub ruleset lower_rules = (low-freed, lowest_freed)

pub ruleset moved_rules = (taken-freed, low-freed, within_place, taken_placed, low-placed)

pub ruleset lent_rules = (taken-replaced, lowest-replaced, within_place)
