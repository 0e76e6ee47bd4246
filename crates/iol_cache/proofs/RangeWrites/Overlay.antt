-- Extents of which one was put over the others, and the bytes of the file after that.
use Rattle.std.proofs.Common.{inl, inr, ◌≡◌, ◌∙◌, ℕ, ◌+◌, ◌-◌, ◌<◌, ◌≤◌, ◌⊎◌, Bool, true, false, cond, List, [], ◌∷◌}
use Rattle.std.proofs.Common.{◌++◌, length, map, take, drop, get_or, max, Option, Some, None, refl, sym, ap, arith}
use Rattle.std.specs.List.{range_with_len}
use Rattle.std.proofs.lemmas.Bool.{cases_lt}
use Rattle.std.proofs.lemmas.List.{ext_get_or}
use Rattle.std.proofs.lemmas.List.FromFn.{get_or-map-range_with_len, length-map-range_with_len}
use Rattle.iol_hold.specs.Places.{byte_len}
use Rattle.iol_extent.specs.Extents.{Adds, Cell, Extent, IsApart, cell_at, cover, end_of, is_over, last_end}
use Rattle.iol_extent.proofs.Cover.{cover_no, cover_yes}
use Rattle.iol_back.specs.Disk.{overwritten}
use Rattle.iol_cache.proofs.Extents.FewerExtents.{over_not, over_yes}
use Rattle.iol_cache.proofs.RangeWrites.StoredBytes.{length-overwritten, over_after, over_before, over_in}

-- The end of the last extent.

pub cover_past : (low : ℕ) (es : List Extent) (i : ℕ) → IsApart low es → last_end es ≤ i → cover es i ≡ None
cover_past low [] i apart past = refl
cover_past low (x ∷ xs) i apart past = cover_no x xs i (inr (omega (arith, past)))
    ∙ cover_past (end_of x) xs i apart.2 (omega (arith, past))

some_not : {c : Cell} {o : Option Cell} → o ≡ Some c → o ≡ None → ⊥
some_not p q = cc

pub cover_last : (low : ℕ) (es : List Extent) (i : ℕ) → IsApart low es → last_end es ≡ i + 1 → cover es i ≡ None → ⊥
cover_last low [] i apart is none = absurd (omega (arith, is))
cover_last low (x ∷ xs) i apart is none = elim (cases_lt (end_of x) (last_end xs)) [
  | inl more ↦
      cover_last (end_of x) xs i apart.2 (omega (arith, is, more))
      (sym (cover_no x xs i (inr (omega (arith, is, more)))) ∙ none)
  | inr last ↦ some_not (cover_yes x xs i (omega (arith, is, last, apart.1)) (omega (arith, is, last))) none
]

module _ (es es' : List Extent) (e : Extent) (apart : IsApart 0 es) (apart' : IsApart 0 es')
    (some : 0 < byte_len e.parts) (adds : Adds es e es') where
  pub over_is : (i : ℕ) → e.at ≤ i → i < end_of e → cover es' i ≡ Some (cell_at e i)
  over_is i lo hi = adds.each i ∙ ap (λ b. cond b (Some (cell_at e i)) (cover es i)) (over_yes e i lo hi)

  pub beside_is : (i : ℕ) → (i < e.at) ⊎ (end_of e ≤ i) → cover es' i ≡ cover es i
  beside_is i out = adds.each i ∙ ap (λ b. cond b (Some (cell_at e i)) (cover es i)) (over_not e i out)

  covers_own : end_of e ≤ last_end es'
  covers_own = elim (cases_lt (last_end es') (end_of e)) [
    | inr le ↦ omega (arith, le)
    | inl less ↦
        absurd (some_not (over_is (end_of e - 1) (omega (arith, some)) (omega (arith, some)))
        (cover_past 0 es' (end_of e - 1) apart' (omega (arith, less))))
  ]

  none_old : (b : Bool) (c : Cell) (o : Option Cell) → cond b (Some c) o ≡ None → o ≡ None
  none_old true c o h = cc
  none_old false c o h = h

  covers_old : last_end es ≤ last_end es'
  covers_old = elim (cases_lt (last_end es') (last_end es)) [
    | inr le ↦ omega (arith, le)
    | inl less ↦ (
        let i = last_end es - 1 in
        let gone = cover_past 0 es' i apart' (omega (arith, less)) in
        absurd
        (cover_last 0 es i apart (omega (arith, less))
        (none_old (is_over e i) (cell_at e i) (cover es i) (sym (adds.each i) ∙ gone))))
  ]

  covers_no_more : last_end es' ≤ max (end_of e) (last_end es)
  covers_no_more = elim (cases_lt (max (end_of e) (last_end es)) (last_end es')) [
    | inr le ↦ omega (arith, le)
    | inl more ↦ (
        let i = last_end es' - 1 in
        let none = beside_is i (inr (omega (arith, more))) ∙ cover_past 0 es i apart (omega (arith, more)) in
        absurd (cover_last 0 es' i apart' (omega (arith, more)) none))
  ]

  pub last_end-over : last_end es' ≡ max (end_of e) (last_end es)
  last_end-over = omega (arith, covers_own, covers_old, covers_no_more)

-- A list whose elements are written over from a place on.

pub map_over : (a b : ℕ → ℕ) (w : List ℕ) (at m n : ℕ) → at ≤ m → n ≡ max (at + length w) m
    → ((i : ℕ) → i < length w → b (at + i) ≡ get_or w i 0) → ((i : ℕ) → (i < at) ⊎ (at + length w ≤ i) → b i ≡ a i)
    → map b (range_with_len 0 n) ≡ take at (map a (range_with_len 0 m)) ++ w
    ++ drop (at + length w) (map a (range_with_len 0 m))
map_over a b w at m n begins long inside outside =
    let xs = map a (range_with_len 0 m) in
    let count = length-map-range_with_len a 0 m in
    let from : at ≤ length xs = omega (arith, count, begins) in
    let all = length-overwritten at w xs from in
    ext_get_or 0 _ _ (omega (arith, length-map-range_with_len b 0 n, all, count, long)) (λ i h.
    let none : 0 + i ≡ i = omega arith in
    let k : i < n = omega (arith, h, length-map-range_with_len b 0 n) in
    get_or-map-range_with_len b 0 n i i 0 k none ∙ elim (cases_lt i at) [
      | inl l ↦ outside i (inl l)
          ∙ sym (over_before at w xs from i l ∙ get_or-map-range_with_len a 0 m i i 0 (omega (arith, l, begins)) none)
      | inr ge ↦ elim (cases_lt i (at + length w)) [
        | inl l ↦ (
            let q = i - at in
            let j : i ≡ at + q = omega (arith, ge) in
            let lt : q < length w = omega (arith, l, ge) in
            ap b j ∙ inside q lt ∙ sym (ap (λ z. get_or (overwritten at w xs) z 0) j ∙ over_in at w xs from q lt))
        | inr past ↦ outside i (inr past)
            ∙ sym (over_after at w xs from i past ∙ get_or-map-range_with_len a 0 m i i 0 (omega (arith, past, k, long))
            none)
      ]
    ])
