-- Facts that follow if a write has passed its tests.
use Rattle.std.proofs.Common.{◌≡◌, ℕ, zero, suc, ◌+◌, ◌≤◌, Bool, true, false, List, [], ◌∷◌, length, drop, Option, Some}
use Rattle.std.proofs.Common.{None, inl, inr, refl, sym, ap, ◌∙◌, subst, arith}
use Rattle.std.specs.Prelude.{nat_lt, not}
use Rattle.std.proofs.lemmas.Bool.{cases_lt}
use Rattle.std.proofs.lemmas.Bool.Decides.{nat_tests}
use Rattle.iol_core.specs.Meaning.{◌when◌, first}
use Rattle.iol_core.specs.State as machine
use Rattle.iol_core.specs.State.{State, descriptor}
use Rattle.iol_core.specs.Calls.Writes as writing
use Rattle.iol_core.specs.declared.descriptors.Mode.{Mode}
use Rattle.iol_core.specs.declared.descriptors.Descriptor.{Descriptor}
use Rattle.iol_core.specs.declared.descriptors.Descriptor.TheVariants as on
use Rattle.iol_core.specs.declared.limits.TheConstants.{MAX_FILE_BYTES}
use Rattle.iol_core.specs.declared.refusals.Refusal.{Refusal}
use Rattle.iol_core.specs.declared.refusals.Refusal.TheVariants.{NoDomain, TooLong, BrokenPipe, WouldBlock}

-- the test at an index
abbrev test_at : (n : ℕ) → List (Option Refusal) → Option Refusal
test_at n [] = None
test_at zero (o ∷ rest) = o
test_at (suc n) (o ∷ rest) = test_at n rest

test_passed : (n : ℕ) (tests : List (Option Refusal)) → first tests ≡ None → test_at n tests ≡ None
test_passed zero [] is = refl
test_passed (suc n) [] is = refl
test_passed zero (None ∷ rest) is = refl
test_passed (suc n) (None ∷ rest) is = test_passed n rest is
test_passed zero (Some x ∷ rest) is = absurd (cc is)
test_passed (suc n) (Some x ∷ rest) is = absurd (cc is)

rest_passed : (n : ℕ) (tests : List (Option Refusal)) → first tests ≡ None → first (drop n tests) ≡ None
rest_passed zero tests is = is
rest_passed (suc n) [] is = refl
rest_passed (suc n) (None ∷ rest) is = rest_passed n rest is
rest_passed (suc n) (Some x ∷ rest) is = absurd (cc is)

not_when : (x : Refusal) (b : Bool) → (x when b) ≡ None → b ≡ false
not_when x true is = absurd (cc is)
not_when x false is = refl

negated : (b : Bool) → not b ≡ false → b ≡ true
negated true e = refl
negated false e = absurd (cc e)

short_enough : (o : Option Descriptor) (f at n : ℕ) (mode : Mode) → o ≡ Some (on.File f at mode)
    → (TooLong when writing.is_too_long o n) ≡ None → at + n ≤ MAX_FILE_BYTES
short_enough o f at n mode is fits = elim (cases_lt MAX_FILE_BYTES (at + n)) [
  | inl k ↦ (let b : nat_lt MAX_FILE_BYTES (at + n) ≡ true = grind (arith, nat_tests, k) in absurd (cc (b, within)))
  | inr k ↦ omega (arith, k)
]
  where
    within : nat_lt MAX_FILE_BYTES (at + n) ≡ false
    within = sym (ap (λ (p : Option Descriptor). writing.is_too_long p n) is)
        ∙ not_when TooLong (writing.is_too_long o n) fits

-- the tests of a queue, by the object of the descriptor
abbrev last_of : State → (n : ℕ) → Option Descriptor → Option Refusal
last_of s n o = first ((BrokenPipe when writing.is_broken s o) ∷ (WouldBlock when writing.takes_none s o n) ∷ [])

-- bytes of the caller's own

module _ (s : State) (d fd : ℕ) (bytes : List ℕ) (passed : first (writing.write s d fd bytes).refusals ≡ None) where
  abbrev tests : List (Option Refusal)
  tests = (writing.write s d fd bytes).refusals

  pub passed_live : machine.is_live s d ≡ true
  passed_live =
      negated (machine.is_live s d) (not_when NoDomain (not (machine.is_live s d)) (test_passed 0 tests passed))

  pub passed_short : (f at : ℕ) (mode : Mode) → descriptor s d fd ≡ Some (on.File f at mode)
      → at + length bytes ≤ MAX_FILE_BYTES
  passed_short f at mode is = short_enough (descriptor s d fd) f at (length bytes) mode is (test_passed 4 tests passed)

  pub passed_last : (o : Option Descriptor) → descriptor s d fd ≡ o → last_of s (length bytes) o ≡ None
  passed_last o to =
      subst (λ (o : Option Descriptor). last_of s (length bytes) o ≡ None) to (rest_passed 6 tests passed)

-- an aggregate

module _ (s : State) (d fd a : ℕ) (passed : first (writing.iol_write s d fd a).refusals ≡ None) where
  abbrev agg_tests : List (Option Refusal)
  agg_tests = (writing.iol_write s d fd a).refusals

  pub agg_short : (f at : ℕ) (mode : Mode) → descriptor s d fd ≡ Some (on.File f at mode)
      → at + length (machine.text s d a) ≤ MAX_FILE_BYTES
  agg_short f at mode is =
      short_enough (descriptor s d fd) f at (length (machine.text s d a)) mode is (test_passed 4 agg_tests passed)

  pub agg_last : (o : Option Descriptor) → descriptor s d fd ≡ o → last_of s (length (machine.text s d a)) o ≡ None
  agg_last o to =
      subst (λ (o : Option Descriptor). last_of s (length (machine.text s d a)) o ≡ None) to
      (rest_passed 5 agg_tests passed)
