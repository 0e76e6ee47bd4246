-- Parts of lists and of slices.
use Rattle.std.proofs.Common.{◌≡◌, ℕ, zero, suc, ◌+◌, ◌-◌, ◌<◌, min, List, [], ◌∷◌, ◌++◌, length, take, drop, get_or}
use Rattle.std.proofs.Common.{slice_range, refl, sym, ap, ◌∙◌, arith, append_assoc}
use Rattle.std.proofs.lemmas.List.{at_drop_more, take_min, length-drop}
use Rattle.iol_hold.specs.declared.slices.Slice.{Slice}
use Rattle.iol_hold.specs.Places.{Place, slice_places, places}
use Rattle.iol_hold.proofs.SlicePlaces.{length-slice_places, places-push}

-- Two lists.

pub take-append : {A : Type 0} (k : ℕ) (xs ys : List A) → take k (xs ++ ys) ≡ take k xs ++ take (k - length xs) ys
take-append zero xs ys = (let e : zero - length xs ≡ zero = omega arith in rw e refl)
take-append (suc k) [] ys = (let e : suc k - 0 ≡ suc k = omega arith in sym (ap (λ n. take n ys) e))
take-append (suc k) (x ∷ xs) ys =
    (let e : suc k - length (x ∷ xs) ≡ k - length xs = omega arith in rw e (ap (λ t. x ∷ t) (take-append k xs ys)))

pub drop-append : {A : Type 0} (k : ℕ) (xs ys : List A) → drop k (xs ++ ys) ≡ drop k xs ++ drop (k - length xs) ys
drop-append zero xs ys = (let e : zero - length xs ≡ zero = omega arith in rw e refl)
drop-append (suc k) [] ys = (let e : suc k - 0 ≡ suc k = omega arith in sym (ap (λ n. drop n ys) e))
drop-append (suc k) (x ∷ xs) ys =
    (let e : suc k - length (x ∷ xs) ≡ k - length xs = omega arith in rw e (drop-append k xs ys))

cut-append : {A : Type 0} (left skip : ℕ) (xs ys : List A) → take left (drop skip (xs ++ ys)) ≡ take left (drop skip xs)
    ++ take (left - (length xs - skip)) (drop (skip - length xs) ys)
cut-append left skip xs ys =
    ap (take left) (drop-append skip xs ys) ∙ take-append left (drop skip xs) (drop (skip - length xs) ys)
    ∙ ap (λ n. take left (drop skip xs) ++ take (left - n) (drop (skip - length xs) ys)) (length-drop skip xs)

-- The places of slices.

places-drop_more : (xs : List Slice) (i : ℕ) (x : Slice) → i < length xs → x ≡ get_or xs i x
    → places (drop i xs) ≡ slice_places x ++ places (drop (i + 1) xs)
places-drop_more xs i x h e = at_drop_more places xs i x h
    ∙ ap (λ y. slice_places y ++ places (drop (i + 1) xs)) (sym e)

-- as many elements as there are, and no more
take_most : {A : Type 0} (left skip : ℕ) (xs : List A)
    → take (min left (length xs - skip)) (drop skip xs) ≡ take left (drop skip xs)
take_most left skip xs = ap (λ n. take (min left n) (drop skip xs)) (sym (length-drop skip xs))
    ∙ take_min left (drop skip xs)

-- the part of a slice that is in the range
part-cut : (x y part : Slice) (skip left taken : ℕ) → slice_places y ≡ slice_places x
    → slice_places part ≡ slice_range (slice_places y) skip (skip + taken) → taken ≡ min left (x.len - skip)
    → slice_places part ≡ take left (drop skip (slice_places x))
part-cut x y part skip left taken same is e =
    let n : skip + taken - skip ≡ min left (length (slice_places x) - skip) = omega (arith, e, length-slice_places x) in
    is ∙ ap (λ t. take (skip + taken - skip) (drop skip t)) same ∙ ap (λ m. take m (drop skip (slice_places x))) n
    ∙ take_most left skip (slice_places x)

-- one step of a cut: a part of this slice is taken, and the rest comes from the slices after it, from their first byte
-- on
pub cut_more : (out xs : List Slice) (i skip left taken : ℕ) (x y part : Slice) (all : List Place) → i < length xs
    → x ≡ get_or xs i x
    → skip < x.len → taken ≡ min left (x.len - skip) → slice_places y ≡ slice_places x
    → slice_places part ≡ slice_range (slice_places y) skip (skip + taken)
    → places out ++ take left (drop skip (places (drop i xs))) ≡ all
    → places (out ++ part ∷ []) ++ take (left - taken) (places (drop (i + 1) xs)) ≡ all
cut_more out xs i skip left taken x y part all h e ends is same cut before =
    let rest : List Place = places (drop (i + 1) xs) in
    let here : List Place = take left (drop skip (slice_places x)) in
    let later : List Place = take (left - taken) rest in
    let done : skip - length (slice_places x) ≡ 0 = omega (arith, length-slice_places x, ends) in
    let less : left - (length (slice_places x) - skip) ≡ left - taken = omega (arith, length-slice_places x, is) in
    let step : take left (drop skip (places (drop i xs))) ≡ here ++ later =
    ap (λ t. take left (drop skip t)) (places-drop_more xs i x h e) ∙ cut-append left skip (slice_places x) rest
    ∙ ap (λ n. here ++ take n (drop (skip - length (slice_places x)) rest)) less
    ∙ ap (λ n. here ++ take (left - taken) (drop n rest)) done in
    ap (λ t. t ++ later) (places-push out part
    ∙ ap (λ t. places out ++ t) (part-cut x y part skip left taken same cut is))
    ∙ append_assoc (places out) here later ∙ ap (λ t. places out ++ t) (sym step) ∙ before
