-- Different places have different numbers.
use Rattle.std.proofs.Common.{inl, inr, ◌≡◌, ℕ, ◌+◌, ◌*◌, ◌<◌, ◌≤◌, List, [], ◌∷◌, map, length, drop, get_or, refl, ap}
use Rattle.std.proofs.Common.{arith}
use Rattle.std.proofs.lemmas.Bool.{cases_order}
use Rattle.std.proofs.lemmas.Nat.{mul-le}
use Rattle.iol_core.specs.declared.numbers.BufId.{BufId}
use Rattle.iol_hold.specs.declared.slices.Slice.{Slice}
use Rattle.iol_hold.specs.StoreState.{Stored}
use Rattle.iol_hold.specs.Places.{Place, places}
use Rattle.iol_hold.specs.Texts.{byte_at, text_of}
use Rattle.iol_hold.specs.Layout.{paired, place_number, number_at, layout_text}
use Rattle.iol_hold.proofs.Counts.{equal_bufs}

-- a smaller sum gives a smaller number: the next square is past it
paired-lt : (a b c d : ℕ) → a + b < c + d → paired a b < paired c d
paired-lt a b c d h =
    let next : a + b + 1 ≤ c + d = omega arith in
    omega (arith, mul-le (a + b + 1) (a + b + 1) (c + d) (c + d) next next)

same_sum : (a b c d : ℕ) → a + b ≡ c + d → paired a b ≡ paired c d → (a ≡ c) × (b ≡ d)
same_sum a b c d h e =
    let square : (a + b) * (a + b) ≡ (c + d) * (c + d) = ap (λ n. n * n) h in
    let first : a ≡ c = omega (arith, e, square) in
    (first, omega (arith, h, first))

pub paired-same : (a b c d : ℕ) → paired a b ≡ paired c d → (a ≡ c) × (b ≡ d)
paired-same a b c d e = elim (cases_order (a + b) (c + d)) [
  | inl h ↦ same_sum a b c d h e
  | inr h ↦ elim h [
    | inl below ↦ absurd (omega (arith, e, paired-lt a b c d below))
    | inr above ↦ absurd (omega (arith, e, paired-lt c d a b above))
  ]
]

pub place_number-same : (b c : BufId) (i j : ℕ) → place_number b i ≡ place_number c j → (b ≡ c) × (i ≡ j)
place_number-same b c i j e =
    let both : (paired b.page b.generation ≡ paired c.page c.generation) × (i ≡ j) =
    paired-same (paired b.page b.generation) i (paired c.page c.generation) j e in
    let buf : (b.page ≡ c.page) × (b.generation ≡ c.generation) =
    paired-same b.page b.generation c.page c.generation both.0 in
    (equal_bufs b c buf.0 buf.1, both.1)

equal_places : (p q : Place) → p.pool ≡ q.pool → p.buf ≡ q.buf → p.at ≡ q.at → p ≡ q
equal_places p q pool buf at = λ i. record { pool = pool i; buf = buf i; at = at i }

pub number_at-same : (p q : Place) → number_at p ≡ number_at q → p ≡ q
number_at-same p q e =
    let same : (p.buf ≡ q.buf) × (p.at ≡ q.at) = place_number-same p.buf q.buf p.at q.at (ap (λ n. n.0) e) in
    equal_places p q (ap (λ n. n.1) e) same.0 same.1

-- place by place
same_numbers : (ps qs : List Place) → map number_at ps ≡ map number_at qs → ps ≡ qs
same_numbers [] [] e = refl
same_numbers [] (q ∷ qs) e = absurd (omega (arith, ap length e))
same_numbers (p ∷ ps) [] e = absurd (omega (arith, ap length e))
same_numbers (p ∷ ps) (q ∷ qs) e =
    let first : p ≡ q = number_at-same p q (ap (λ ns. get_or ns 0 (number_at p)) e) in
    let others : ps ≡ qs = same_numbers ps qs (ap (drop 1) e) in
    λ i. first i ∷ others i

pub layout_text-same : (xs ys : List Slice) → layout_text xs ≡ layout_text ys → places xs ≡ places ys
layout_text-same xs ys e = same_numbers (places xs) (places ys) e

-- slices with the same layout have the same text, for any contents of the store
pub text_of_layout : (s : Stored) (xs ys : List Slice) → layout_text xs ≡ layout_text ys → text_of s xs ≡ text_of s ys
text_of_layout s xs ys e = ap (map (byte_at s)) (layout_text-same xs ys e)
