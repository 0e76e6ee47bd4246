-- The slices of extents that meet a range.
use Rattle.std.proofs.Common.{◌≡◌, ℕ, ◌+◌, ◌-◌, ◌<◌, ◌≤◌, Bool, true, false, min, cond, ltb, List, [], ◌∷◌, ◌++◌, Some}
use Rattle.std.proofs.Common.{refl, sym, ap, subst, ◌∙◌, arith, inl, inr, append_assoc, append-nil}
use Rattle.std.proofs.lemmas.Bool.{cases_lt, le-ltb}
use Rattle.iol_core.specs.declared.numbers.BufId.{BufId}
use Rattle.iol_agg.specs.Pours.{meeting}
use Rattle.iol_agg.proofs.RangeSlices.{meeting-empty}
use Rattle.iol_extent.specs.Extents.{Extent, IsApart, end_of, extent_over, is_over}
use Rattle.iol_hold.specs.Places.{byte_len}
use Rattle.iol_hold.specs.Texts.{bufs_of}
use Rattle.iol_hold.specs.declared.slices.Slice.{Slice}
use Rattle.iol_hold.proofs.Counts.{bufs-append}
use Rattle.iol_hold.proofs.SlicePlaces.{byte_len-cons}
use Rattle.iol_cache.specs.SharedBytes.{slices_over}
use Rattle.iol_cache.proofs.RangeReads.SharedBytes.{over_at, over_low}

-- no slice meets a range after the last byte
meeting-past : (from to : ℕ) (xs : List Slice) → byte_len xs ≤ from → meeting from to xs ≡ []
unfolding meeting
meeting-past from to [] h = refl
meeting-past from to (x ∷ xs) h =
    let len = byte_len-cons x xs in
    ap (λ b. cond b (x ∷ []) [] ++ meeting (from - x.len) (to - x.len) xs)
    (le-ltb from (min to x.len) (omega (arith, len, h)))
    ∙ meeting-past (from - x.len) (to - x.len) xs (omega (arith, len, h))

-- ranges that end at or after the last byte meet the same slices
meeting-far : (from to end : ℕ) (xs : List Slice) → byte_len xs ≤ to → byte_len xs ≤ end
    → meeting from to xs ≡ meeting from end xs
unfolding meeting
meeting-far from to end [] h k = refl
meeting-far from to end (x ∷ xs) h k =
    let len = byte_len-cons x xs in
    let same : min to x.len ≡ min end x.len = omega (arith, len, h, k) in
    ap (λ n. cond (ltb from n) (x ∷ []) [] ++ meeting (from - x.len) (to - x.len) xs) same
    ∙ ap (λ t. cond (ltb from (min end x.len)) (x ∷ []) [] ++ t)
    (meeting-far (from - x.len) (to - x.len) (end - x.len) xs (omega (arith, len, h)) (omega (arith, len, k)))

-- of extents that begin later, those that meet a range do so from wherever it begins before them
over_later : (low : ℕ) (es : List Extent) (at next to : ℕ) → IsApart low es → at ≤ low → next ≤ low
    → slices_over es at to ≡ slices_over es next to
over_later low [] at next to apart h k = refl
over_later low (x ∷ xs) at next to apart h k =
    let same : at - x.at ≡ next - x.at = omega (arith, apart.0, h, k) in
    ap (λ n. meeting n (to - x.at) x.parts ++ slices_over xs at to) same
    ∙ ap (λ t. meeting (next - x.at) (to - x.at) x.parts ++ t)
    (over_later (end_of x) xs at next to apart.2 (omega (arith, apart.0, h)) (omega (arith, apart.0, k)))

-- the slices of one extent from a byte of it on: up to its end or that of the range, and then none
of_one : (x : Extent) (at n to : ℕ) → x.at ≤ at → at < end_of x → at ≤ to → n ≡ min (to - at) (end_of x - at)
    → (meeting (at - x.at) (to - x.at) x.parts ≡ meeting (at - x.at) ((at - x.at) + n) x.parts)
    × (meeting ((at + n) - x.at) (to - x.at) x.parts ≡ [])
of_one x at n to lo hi le is = elim (cases_lt to (end_of x)) [
  | inl h ↦ (
      let end : to - x.at ≡ (at - x.at) + n = omega (arith, lo, hi, le, is, h) in
      let same : (at + n) - x.at ≡ to - x.at = omega (arith, lo, hi, le, is, h) in (
        ap (λ k. meeting (at - x.at) k x.parts) end,
        ap (λ k. meeting k (to - x.at) x.parts) same ∙ meeting-empty (to - x.at) x.parts,
      ))
  | inr h ↦ (
    meeting-far (at - x.at) (to - x.at) ((at - x.at) + n) x.parts (omega (arith, lo, hi, le, is, h))
        (omega (arith, lo, hi, le, is, h)),
    meeting-past ((at + n) - x.at) (to - x.at) x.parts (omega (arith, lo, hi, le, is, h)),
  )
]

-- the slices over a range are those of the extent over its first byte, and those from there on
pub over_next : (low : ℕ) (es : List Extent) (at n to : ℕ) (e : Extent) → IsApart low es → extent_over es at ≡ Some e
    → at ≤ to → n ≡ min (to - at) (end_of e - at)
    → slices_over es at to ≡ meeting (at - e.at) ((at - e.at) + n) e.parts ++ slices_over es (at + n) to
over_next low [] at n to e apart h le is = cc
over_next low (x ∷ xs) at n to e apart h le is =
    here (is_over x at) (λ t. over_at (x ∷ xs) at x (ap (λ b. cond b (Some x) (extent_over xs at)) t)) h
    (λ t. over_next (end_of x) xs at n to e apart.2 t le is)
  where
    here : (b : Bool) → (is_over x at ≡ true → (x.at ≤ at) × (at < end_of x))
        → cond b (Some x) (extent_over xs at) ≡ Some e
        → (extent_over xs at ≡ Some e → slices_over xs at to ≡ meeting (at - e.at) ((at - e.at) + n) e.parts
        ++ slices_over xs (at + n) to)
        → slices_over (x ∷ xs) at to ≡ meeting (at - e.at) ((at - e.at) + n) e.parts ++ slices_over (x ∷ xs) (at + n) to
    here true f k ih =
        let same : x ≡ e = cc in
        let has = over_at (x ∷ xs) at e h in
        let lo : x.at ≤ at = omega (arith, ap (λ (y : Extent). y.at) same, has.0) in
        let hi : at < end_of x = omega (arith, ap end_of same, has.1) in
        let m : n ≡ min (to - at) (end_of x - at) = omega (arith, is, ap end_of same) in
        let one = of_one x at n to lo hi le m in
        let first = meeting (at - x.at) ((at - x.at) + n) x.parts in
        subst (λ (y : Extent). slices_over (x ∷ xs) at to ≡ meeting (at - y.at) ((at - y.at) + n) y.parts
        ++ slices_over (x ∷ xs) (at + n) to) same
        (ap (λ l. l ++ slices_over xs at to) one.0
        ∙ ap (λ l. first ++ l) (over_later (end_of x) xs at (at + n) to apart.2 (omega (arith, hi)) (omega (arith, m))
        ∙ sym (ap (λ l. l ++ slices_over xs (at + n) to) one.1)))
    here false f k ih =
        let has = over_at xs at e k in
        let low = over_low (end_of x) xs at e apart.2 k in
        let none = meeting-past (at - x.at) (to - x.at) x.parts (omega (arith, has.0, low)) in
        let later = meeting-past ((at + n) - x.at) (to - x.at) x.parts (omega (arith, has.0, low)) in
        ap (λ l. l ++ slices_over xs at to) none ∙ ih k
        ∙ ap (λ l. meeting (at - e.at) ((at - e.at) + n) e.parts ++ (l ++ slices_over xs (at + n) to)) (sym later)

-- no slice is over an empty range
pub slices_over_none : (es : List Extent) (at : ℕ) → slices_over es at at ≡ []
slices_over_none [] at = refl
slices_over_none (x ∷ xs) at = ap (λ l. l ++ slices_over xs at at) (meeting-empty (at - x.at) x.parts)
    ∙ slices_over_none xs at

-- Lists of slices that grow.

-- the first of the remaining slices were added
pub parts_more : (old new part left rest : List Slice) (all : List BufId) → bufs_of new ≡ bufs_of old ++ bufs_of part
    → left ≡ part ++ rest → bufs_of old ++ bufs_of left ≡ all → bufs_of new ++ bufs_of rest ≡ all
parts_more old new part left rest all more is before =
    ap (λ l. l ++ bufs_of rest) more ∙ append_assoc (bufs_of old) (bufs_of part) (bufs_of rest)
    ∙ ap (λ l. bufs_of old ++ l) (sym (ap bufs_of is ∙ bufs-append part rest)) ∙ before

-- no slice is left to add
pub parts_done : (xs left : List Slice) (all : List BufId) → left ≡ [] → bufs_of xs ++ bufs_of left ≡ all
    → bufs_of xs ≡ all
parts_done xs left all none h = sym (append-nil (bufs_of xs)) ∙ ap (λ l. bufs_of xs ++ bufs_of l) (sym none) ∙ h

-- the last were added
pub parts_last : (old new part : List Slice) (all : List BufId) → bufs_of new ≡ bufs_of old ++ bufs_of part
    → bufs_of old ++ bufs_of part ≡ all → bufs_of new ≡ all
parts_last old new part all more before = more ∙ before
