-- Tests that hold or fail together.
use Rattle.std.proofs.Common.{inl, inr, ◌≡◌, ◌≢◌, ℕ, ◌⊎◌, ◌==◌, refl, arith, Option, Some, None, true, false, Bool}
use Rattle.std.specs.Prelude.{unwrap_or, not, is_none, ◌&&◌, ◌||◌}
use Rattle.std.proofs.lemmas.Bool.Decides.{nat_tests}
use Rattle.std.proofs.lemmas.Grind.{common_steps}

pub apart : (e c : ℕ) → (e == c) ≡ false → e ≢ c
apart e c un same = grind (arith, nat_tests, un, same)

-- the first and the second part of a false disjunction
pub left-false : (a b : Bool) → (a || b) ≡ false → a ≡ false
left-false a b un = grind (arith, un)

pub right-false : (a b : Bool) → (a || b) ≡ false → b ≡ false
right-false a b un = grind (arith, un)

pub left-true : (a b : Bool) → a ≡ true → (a || b) ≡ true
left-true a b is = grind (arith, is)

pub right-true : (a b : Bool) → b ≡ true → (a || b) ≡ true
right-true a b is = grind (arith, is)

pub both-true : (a b : Bool) → (a && b) ≡ true → (a ≡ true) × (b ≡ true)
both-true true b is = (refl, is)
both-true false b is = absurd (cc)

pub both-false : (a b : Bool) → a ≡ false → b ≡ false → (a || b) ≡ false
both-false a b x y = grind (arith, x, y)

pub not-true : (a : Bool) → not a ≡ true → a ≡ false
not-true true is = absurd (cc)
not-true false is = refl

pub not-false : (a : Bool) → not a ≡ false → a ≡ true
not-false true is = refl
not-false false is = absurd (cc)

pub same-number : (a b : ℕ) → (a == b) ≡ true → a ≡ b
same-number a b is = grind (arith, nat_tests, is)

pub is_some-or : (o : Option ℕ) → is_none o ≡ false → o ≡ Some (unwrap_or o 0)
is_some-or None some = absurd (cc)
is_some-or (Some n) some = refl

pub either : (a b : Bool) → (a || b) ≡ true → (a ≡ true) ⊎ (b ≡ true)
either true b is = inl is
either false b is = inr is

pub itself : (n : ℕ) → (n == n) ≡ true
itself n = grind (arith, nat_tests)

-- two pairs that differ, and whose first parts are equal, differ in the second
pub differs : (a b c d : ℕ) → ((a == b) && (c == d)) ≡ false → a ≡ b → c ≢ d
differs a b c d un same equal = grind (arith, nat_tests, common_steps, un, same, equal)
