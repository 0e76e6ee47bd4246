-- The sum of a list in two pieces.
use Rattle.std.proofs.Common.{◌≡◌, ℕ, suc, nat_eq, ◌+◌, ◌*◌, ◌%◌, Bool, true, false, List, [], ◌∷◌, ◌++◌, length, sym}
use Rattle.std.proofs.Common.{ap, ◌∙◌, arith}
use Rattle.iol_core.specs.Checksum.{word_sum, folded}
use Rattle.iol_sum.specs.Pieces.{is_odd, joined}
use Rattle.iol_sum.proofs.Folds.{folded-more, alike-before, joined-even, joined-odd}

odd-step : (n : ℕ) → is_odd n ≡ is_odd (suc (suc n))
odd-step n = let e : n % 2 ≡ suc (suc n) % 2 = omega arith in ap (λ m. nat_eq m 1) e

-- a byte before all others
pub word_sum-cons : (a : ℕ) (ys : List ℕ) → folded (word_sum (a ∷ ys)) ≡ folded (256 * a + 256 * word_sum ys)
word_sum-cons a [] = ap folded (omega arith)
word_sum-cons a (y ∷ []) =
    sym (folded-more (256 * a + 256 * (256 * y)) (256 * a + y + 0) y (omega arith) (λ z. omega arith))
word_sum-cons a (y ∷ z ∷ r) =
    alike-before (word_sum (z ∷ r)) (256 * z + 256 * word_sum r) (256 * a + y) (word_sum-cons z r)
    ∙ sym (folded-more (256 * a + 256 * (256 * y + z + word_sum r)) (256 * a + y + (256 * z + 256 * word_sum r)) y
    (omega arith) (λ z. omega arith))

pub word_sum-even : (xs ys : List ℕ) → is_odd (length xs) ≡ false → word_sum (xs ++ ys) ≡ word_sum xs + word_sum ys
word_sum-even [] ys h = omega arith
word_sum-even (a ∷ []) ys h = cc
word_sum-even (a ∷ b ∷ r) ys h = let e = word_sum-even r ys (odd-step (length r) ∙ h) in omega arith

pub word_sum-odd : (xs ys : List ℕ) → is_odd (length xs) ≡ true
    → folded (word_sum (xs ++ ys)) ≡ folded (word_sum xs + 256 * word_sum ys)
word_sum-odd [] ys h = cc
word_sum-odd (a ∷ []) ys h = word_sum-cons a ys
word_sum-odd (a ∷ b ∷ r) ys h =
    let f : 256 * a + b + (word_sum r + 256 * word_sum ys) ≡ 256 * a + b + word_sum r + 256 * word_sum ys =
    omega arith in
    alike-before (word_sum (r ++ ys)) (word_sum r + 256 * word_sum ys) (256 * a + b)
    (word_sum-odd r ys (odd-step (length r) ∙ h)) ∙ ap folded f

by_place : (b : Bool) (xs ys : List ℕ) → b ≡ is_odd (length xs)
    → joined (folded (word_sum xs)) b (folded (word_sum ys)) ≡ folded (word_sum (xs ++ ys))
by_place true xs ys h = joined-odd (word_sum xs) (word_sum ys) ∙ sym (word_sum-odd xs ys (sym h))
by_place false xs ys h = joined-even (word_sum xs) (word_sum ys) ∙ sym (ap folded (word_sum-even xs ys (sym h)))

-- the sum of a list, from the sums of its two pieces
pub joined-append : (s : ℕ) (b : Bool) (t : ℕ) (xs ys : List ℕ) → s ≡ folded (word_sum xs) → b ≡ is_odd (length xs)
    → t ≡ folded (word_sum ys) → joined s b t ≡ folded (word_sum (xs ++ ys))
joined-append s b t xs ys e f g = ap (λ n. joined n b t) e ∙ ap (λ n. joined (folded (word_sum xs)) b n) g
    ∙ by_place b xs ys f
