-- Sums of concatenated pieces (RFC 1071, section 2 (A) and (B)).
use Rattle.std.specs.Prelude.{◌≡◌, ℕ, ◌+◌, ◌*◌, ◌/◌, ◌%◌, Bool, if◌then◌else◌, List, ◌++◌, length, ◌==◌}
use Rattle.iol_core.specs.Checksum.{word_sum, folded}

-- a number of 16 bits with its two bytes swapped
abbrev pub swapped : ℕ → ℕ
swapped n = n % 256 * 256 + n / 256

abbrev pub is_odd : ℕ → Bool
is_odd n = n % 2 == 1

-- the sum of a piece with sum `sum`, followed by a rest with sum `rest`; `at_odd`: the rest begins at an odd offset
abbrev pub joined : (sum : ℕ) (at_odd : Bool) (rest : ℕ) → ℕ
joined sum at_odd rest = folded (sum + (if at_odd then swapped rest else rest))

-- the number is the folded sum of the bytes
abbrev pub IsSumOf : List ℕ → (sum : ℕ) → Type 0
IsSumOf bytes sum = sum ≡ folded (word_sum bytes)

-- For every piece and every rest with these sums, `whole` is the sum of the piece followed by the rest.
abbrev pub JoinsPieces : (sum : ℕ) (at_odd : Bool) (rest whole : ℕ) → Type 0
JoinsPieces sum at_odd rest whole =
    (xs ys : List ℕ) → IsSumOf xs sum → at_odd ≡ is_odd (length xs) → IsSumOf ys rest → IsSumOf (xs ++ ys) whole
