-- The place of the bytes of a chunk in their frame: after their number in hexadecimal, and the end of its line.
use Rattle.std.proofs.Common.{◌≡◌, ℕ, zero, suc, ◌+◌, ◌*◌, ◌/◌, ◌%◌, ◌^◌, ◌<◌, ◌≤◌, ◌==◌, Bool, true, false, cond, List}
use Rattle.std.proofs.Common.{[], ◌∷◌, length, refl, arith}
use Rattle.std.specs.Prelude.{codes}
use Rattle.std.specs.Fmt.{digits, digits_onto, digit_glyph}
use Rattle.std.proofs.Math.Nat.{pow-succ'}
use Rattle.std.proofs.lemmas.List.{length-append}
use Rattle.std.proofs.lemmas.Bool.Decides.{nat_tests}
use Rattle.flash_laws.specs.Answers.Scripts.{place_in_frame}

none : (m : ℕ) → (m == 0) ≡ true → m ≡ 0
none m e = grind (arith, nat_tests)

some : (m : ℕ) → (m == 0) ≡ false → 0 < m
some m e = grind (arith, nat_tests)

-- one more digit for each division by 16
length_onto : (fuel k n : ℕ) (acc : List ℕ) → k < fuel → 16 ^ k ≤ n → n < 16 * 16 ^ k
    → length (digits_onto fuel 16 false n acc) ≡ k + 1 + length acc
length_onto zero k n acc within low high = absurd (omega arith)
length_onto (suc fuel) k n acc within low high =
    ends_or_proceeds k (n / 16 == 0) refl within low high
    (λ j in_fuel above below. length_onto fuel j (n / 16) (digit_glyph false (n % 16) ∷ acc) in_fuel above below)
  where
    ends_or_proceeds : (k : ℕ) (v : Bool) → (n / 16 == 0) ≡ v → k < suc fuel → 16 ^ k ≤ n → n < 16 * 16 ^ k
        → ((j : ℕ) → j < fuel → 16 ^ j ≤ n / 16 → n / 16 < 16 * 16 ^ j
        → length (digits_onto fuel 16 false (n / 16) (digit_glyph false (n % 16) ∷ acc))
        ≡ j + 1 + length (digit_glyph false (n % 16) ∷ acc))
        → length
        (cond v (digit_glyph false (n % 16) ∷ acc)
        (digits_onto fuel 16 false (n / 16) (digit_glyph false (n % 16) ∷ acc))) ≡ k + 1 + length acc
    ends_or_proceeds zero true e within low high more = omega arith
    ends_or_proceeds (suc k) true e within low high more = let gone = none (n / 16) e in
        absurd (omega (arith, pow-succ' 16 k))
    ends_or_proceeds zero false e within low high more = let below = some (n / 16) e in absurd (omega arith)
    ends_or_proceeds (suc k) false e within low high more =
        let step = pow-succ' 16 k in
        let rest = more k (omega (arith, step)) (omega (arith, step)) (omega (arith, step)) in omega (arith, rest)

hex_length : (k n : ℕ) → k < 32 → 16 ^ k ≤ n → n < 16 * 16 ^ k → length (digits 16 false n) ≡ k + 1
unfolding digits
hex_length k n within low high = let all = length_onto 64 k n [] (omega arith) low high in omega (arith, all)

pub place_by_digits : (k size : ℕ) → k < 32 → 16 ^ k ≤ size → size < 16 * 16 ^ k → place_in_frame size ≡ k + 3
place_by_digits k size within low high =
    let all = hex_length k size within low high in
    let e = length-append (digits 16 false size) (codes "\r\n") in
    omega (arith, e, all)
