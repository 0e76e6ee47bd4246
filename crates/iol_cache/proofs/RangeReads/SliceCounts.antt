-- The number of slices of a range.
use Rattle.std.proofs.Common.{◌≡◌, ◌∙◌, ℕ, ◌+◌, ◌-◌, ◌<◌, ◌≤◌, Bool, true, false, min, cond, ltb, List, [], ◌∷◌, ◌++◌}
use Rattle.std.proofs.Common.{length, refl, sym, ap, arith, inl, inr, length-append}
use Rattle.std.proofs.lemmas.Bool.{cases_lt, lt-ltb, le-ltb}
use Rattle.std.proofs.lemmas.List.{length-map}
use Rattle.iol_agg.specs.Pours.{meeting}
use Rattle.iol_agg.proofs.RangeSlices.{meeting-empty}
use Rattle.iol_extent.specs.Extents.{Extent}
use Rattle.iol_extent.specs.declared.spans.Span.{Span}
use Rattle.iol_hold.specs.Texts.{bufs_of}
use Rattle.iol_hold.specs.declared.slices.Slice.{Slice}
use Rattle.iol_cache.specs.SharedBytes.{slices_over}
use Rattle.iol_cache.specs.Weave.{len_beside, slices_beside, slices_read, slices_woven}

-- 1 if a is below b
abbrev bit : (a b : ℕ) → ℕ
bit a b = cond (ltb a b) 1 0

bit_yes : (a b : ℕ) → a < b → bit a b ≡ 1
bit_yes a b h = ap (λ c. cond {A = ℕ} c 1 0) (lt-ltb a b h)

bit_no : (a b : ℕ) → b ≤ a → bit a b ≡ 0
bit_no a b h = ap (λ c. cond {A = ℕ} c 1 0) (le-ltb a b h)

bit_most : (a b : ℕ) → bit a b ≤ 1
bit_most a b = here (ltb a b) where
  here : (c : Bool) → cond {A = ℕ} c 1 0 ≤ 1
  here true = omega arith
  here false = omega arith

count_first : (a b : ℕ) (x : Slice) (xs : List Slice)
    → length (meeting a b (x ∷ xs)) ≡ bit a (min b x.len) + length (meeting (a - x.len) (b - x.len) xs)
unfolding meeting
count_first a b x xs =
    length-append (cond (ltb a (min b x.len)) (x ∷ []) []) (meeting (a - x.len) (b - x.len) xs)
    ∙ ap (λ n. n + length (meeting (a - x.len) (b - x.len) xs)) (one (ltb a (min b x.len)))
  where
    one : (c : Bool) → length (cond c (x ∷ []) []) ≡ cond {A = ℕ} c 1 0
    one true = refl
    one false = refl

-- at most all slices meet a range
pub meeting_few : (a b : ℕ) (xs : List Slice) → length (meeting a b xs) ≤ length xs
unfolding meeting
meeting_few a b [] = omega arith
meeting_few a b (x ∷ xs) =
    omega (arith, count_first a b x xs, bit_most a (min b x.len), meeting_few (a - x.len) (b - x.len) xs)

-- a cut divides at most one slice
meeting_cut : (a b c : ℕ) (xs : List Slice) → a ≤ b → b ≤ c
    → length (meeting a b xs) + length (meeting b c xs) ≤ length (meeting a c xs) + 1
unfolding meeting
meeting_cut a b c [] h k = omega arith
meeting_cut a b c (x ∷ xs) h k =
    let one = count_first a b x xs in
    let two = count_first b c x xs in
    let all = count_first a c x xs in
    elim (cases_lt b x.len) [
      | inl short ↦ (
          let low : a - x.len ≡ b - x.len = omega (arith, short, h) in
          let none : length (meeting (a - x.len) (b - x.len) xs) ≡ 0 = ap (λ n. length (meeting n (b - x.len) xs)) low
          ∙ ap length (meeting-empty (b - x.len) xs) in
          let same : length (meeting (a - x.len) (c - x.len) xs) ≡ length (meeting (b - x.len) (c - x.len) xs) =
          ap (λ n. length (meeting n (c - x.len) xs)) low in
          elim (cases_lt a b) [
            | inl less ↦ omega (
              arith,
              one,
              two,
              all,
              none,
              same,
              bit_most a (min b x.len),
              bit_most b (min c x.len),
              bit_yes a (min c x.len) (omega (arith, less, short, k)),
            )
            | inr not ↦ omega (
              arith,
              one,
              two,
              all,
              none,
              same,
              bit_no a (min b x.len) (omega (arith, not)),
              bit_most b (min c x.len),
            )
          ])
      | inr long ↦ (
          let same : bit a (min b x.len) ≡ bit a (min c x.len) =
          (let e : min b x.len ≡ min c x.len = omega (arith, long, k) in ap (bit a) e) in
          omega (
            arith,
            one,
            two,
            all,
            same,
            bit_no b (min c x.len) (omega (arith, long)),
            meeting_cut (a - x.len) (b - x.len) (c - x.len) xs (omega (arith, h)) (omega (arith, k)),
          ))
    ]

-- the number of slices over gaps
abbrev over_gaps : List Extent → List Span → ℕ
over_gaps es [] = 0
over_gaps es (g ∷ gs) = length (slices_over es g.from g.to) + over_gaps es gs

pub woven_few : (xs : List Slice) (es : List Extent) (used at to : ℕ) (gs : List Span)
    → length (slices_woven xs es used at to gs) ≤ length (meeting used (used + len_beside at to gs) xs) + over_gaps es
    gs + length gs
woven_few xs es used at to [] = omega arith
woven_few xs es used at to (g ∷ gs) =
    let next = used + (g.from - at) in
    let rest = len_beside g.to to gs in
    let first = meeting used next xs in
    let over = slices_over es g.from g.to in
    let later = slices_woven xs es next g.to to gs in
    let end : next + rest ≡ used + ((g.from - at) + rest) = omega arith in
    omega (
      arith,
      length-append first (over ++ later),
      length-append over later,
      woven_few xs es next g.to to gs,
      meeting_cut used next (next + rest) xs (omega arith) (omega arith),
      ap (λ n. length (meeting used n xs)) end,
    )

pub read_long : (old new : List Extent) (at to : ℕ) (gs : List Span)
    → length (slices_read old new at to gs) ≡ length (slices_beside old at to gs) + over_gaps new gs
read_long old new at to [] = omega arith
read_long old new at to (g ∷ gs) =
    let first = slices_over old at g.from in
    let over = slices_over new g.from g.to in
    omega (
      arith,
      length-append first (over ++ slices_read old new g.to to gs),
      length-append over (slices_read old new g.to to gs),
      length-append first (slices_beside old g.to to gs),
      read_long old new g.to to gs,
    )

-- slices of the same buffers have the same number
pub same_count : (xs ys : List Slice) → bufs_of xs ≡ bufs_of ys → length xs ≡ length ys
same_count xs ys h = sym (length-map xs (λ (x : Slice). x.hold.buf)) ∙ ap length h
    ∙ length-map ys (λ (x : Slice). x.hold.buf)
