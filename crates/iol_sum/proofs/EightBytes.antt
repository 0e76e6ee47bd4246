-- Eight bytes at a time.
use Rattle.std.proofs.Common.{◌≡◌, ℕ, zero, suc, ◌+◌, ◌*◌, ◌<◌, ◌≤◌, List, [], ◌∷◌, length, get_or, take, drop, refl}
use Rattle.std.proofs.Common.{ap, ◌∙◌, arith}
use Rattle.std.specs.Int.{w64, from_le_bytes}
use Rattle.std.specs.Simd.{first_chunks}
use Rattle.std.proofs.lemmas.List.{drop-drop}
use Rattle.iol_core.specs.Checksum.{word_sum, folded}
use Rattle.iol_sum.proofs.Folds.{folded-more}

-- eight bytes as one little-endian number count as their four words with swapped bytes
pub folded-eight : (t : ℕ) (xs : List ℕ) → 8 ≤ length xs
    → folded (256 * (t + from_le_bytes w64 (take 8 xs)) + word_sum (drop 8 xs)) ≡ folded (256 * t + word_sum xs)
folded-eight t (a ∷ b ∷ c ∷ d ∷ e ∷ f ∷ g ∷ h ∷ r) l =
    folded-more _ _ (b + 256 * c + 65537 * d + 256 * 65537 * e + 4295032833 * f + 256 * 4295032833 * g + 281479271743489
    * h) (omega arith) (λ z. omega arith)
folded-eight t [] l = absurd (omega arith)
folded-eight t (a ∷ []) l = absurd (omega arith)
folded-eight t (a ∷ b ∷ []) l = absurd (omega arith)
folded-eight t (a ∷ b ∷ c ∷ []) l = absurd (omega arith)
folded-eight t (a ∷ b ∷ c ∷ d ∷ []) l = absurd (omega arith)
folded-eight t (a ∷ b ∷ c ∷ d ∷ e ∷ []) l = absurd (omega arith)
folded-eight t (a ∷ b ∷ c ∷ d ∷ e ∷ f ∷ []) l = absurd (omega arith)
folded-eight t (a ∷ b ∷ c ∷ d ∷ e ∷ f ∷ g ∷ []) l = absurd (omega arith)

pub first_chunks-at : (k i : ℕ) (xs d : List ℕ) → i < k → get_or (first_chunks 8 k xs) i d ≡ take 8 (drop (8 * i) xs)
first_chunks-at (suc k) zero xs d h = refl
first_chunks-at (suc k) (suc i) xs d h =
    let e : 8 + 8 * i ≡ 8 * suc i = omega arith in
    first_chunks-at k i (drop 8 xs) d (omega arith) ∙ ap (take 8) (drop-drop (8 * i) 8 xs)
    ∙ ap (λ n. take 8 (drop n xs)) e
first_chunks-at zero i xs d h = absurd (omega arith)

-- one more of the last few bytes, which are alternately the first and the second of their words
pub folded-first : (t b : ℕ) (ys : List ℕ)
    → folded (256 * (t + b) + word_sum (0 ∷ ys)) ≡ folded (256 * t + word_sum (b ∷ ys))
folded-first t b [] = ap folded (omega arith)
folded-first t b (y ∷ r) = ap folded (omega arith)

pub folded-second : (t b : ℕ) (ys : List ℕ)
    → folded (256 * (t + b * 256) + word_sum ys) ≡ folded (256 * t + word_sum (0 ∷ b ∷ ys))
folded-second t b ys = folded-more _ _ b (omega arith) (λ z. omega arith)
