-- Prefixes of places, slice by slice.
use Rattle.std.proofs.Common.{◌≡◌, ℕ, zero, suc, ◌+◌, ◌-◌, ◌<◌, ◌≤◌, Bool, true, false, cond, min, Some, List, [], ◌∷◌}
use Rattle.std.proofs.Common.{◌++◌, map, length, take, drop, get_or, slice_range, refl, sym, ap, ◌∙◌, arith}
use Rattle.std.proofs.Common.{append_assoc}
use Rattle.std.specs.List.{take_while, slice_get, range_with_len}
use Rattle.std.specs.Option.{option_map}
use Rattle.std.proofs.lemmas.List.{take-append-drop, take_all, at_drop_more, length-take, take_min, length-drop}
use Rattle.std.proofs.lemmas.List.Sums.{take_while-cons}
use Rattle.iol_hold.specs.declared.slices.Slice.{Slice}
use Rattle.iol_hold.specs.Places.{Place, place_in, slice_places, places}
use Rattle.iol_hold.proofs.SlicePlaces.{row, length-slice_places}
use Rattle.iol_pipe.specs.Queue.{first_pool}

-- the places of a slice begin with its first
slice_begins : (x : Slice) → slice_places x ≡ place_in x x.from ∷ row x.hold.pool x.hold.buf (x.from + 1) (x.len - 1)
slice_begins x = begins x.from x.len x.some
  where
    begins : (i n : ℕ) → 0 < n → row x.hold.pool x.hold.buf i n ≡ place_in x i
        ∷ row x.hold.pool x.hold.buf (i + 1) (n - 1)
    begins i zero h = absurd (omega arith)
    begins i (suc n) h = let e : n ≡ suc n - 1 = omega arith in
        ap (λ k. place_in x i ∷ row x.hold.pool x.hold.buf (i + 1) k) e

-- a slice divided in two, before others
pub split_first : (x a b : Slice) (k : ℕ) (rest : List Slice) → slice_places a ≡ take k (slice_places x)
    → slice_places b ≡ drop k (slice_places x) → slice_places a ++ places (b ∷ rest) ≡ places (x ∷ rest)
split_first x a b k rest first after =
    sym (append_assoc (slice_places a) (slice_places b) (places rest))
    ∙ ap (λ t. t ++ slice_places b ++ places rest) first
    ∙ ap (λ t. take k (slice_places x) ++ t ++ places rest) after
    ∙ ap (λ t. t ++ places rest) (take-append-drop k (slice_places x))

pub first_pool-is : (xs : List Slice) (x : Slice) → 0 < length xs → x ≡ get_or xs 0 x → Some x.hold.pool ≡ first_pool xs
first_pool-is [] x h e = absurd (omega arith)
first_pool-is (y ∷ ys) x h e =
    ap (λ (z : Slice). Some z.hold.pool) e ∙ ap (λ t. option_map (λ (p : Place). p.pool) (slice_get (t ++ places ys) 0))
    (sym (slice_begins y))

-- The first n places of a list and others.

pub take-append : {A : Type 0} (a r : List A) (n : ℕ) → take n (a ++ r) ≡ take n a ++ take (n - length a) r
take-append {A} [] r n =
    let e : n ≡ n - 0 = omega arith in
    let none : List A = [] in
    ap (λ k. take k r) e ∙ ap (λ t. t ++ take (n - 0) r) (sym (take_all n none (omega arith)))
take-append (x ∷ a) r zero = let e : 0 ≡ 0 - suc (length a) = omega arith in ap (λ k. take k r) e
take-append (x ∷ a) r (suc n) =
    let e : n - length a ≡ suc n - suc (length a) = omega arith in
    ap (λ t. x ∷ t) (take-append a r n ∙ ap (λ k. take n a ++ take k r) e)

-- the first `left` bytes from the i-th slice on: those of this slice, and those after it
pub take_step : (xs : List Slice) (i left : ℕ) (x a : Slice) → i < length xs → x ≡ get_or xs i x
    → slice_places a ≡ take left (slice_places x) → take left (places (drop i xs)) ≡ slice_places a
    ++ take (left - a.len) (places (drop (i + 1) xs))
take_step xs i left x a h e part =
    let r : List Place = places (drop (i + 1) xs) in
    let long : left - length (slice_places x) ≡ left - a.len =
    omega (
      arith,
      length-slice_places x,
      length-slice_places a,
      ap length part,
      length-take left (slice_places x),
    ) in
    at_drop_more (λ ys. take left (places ys)) xs i x h
    ∙ ap (λ y. take left (slice_places y ++ r)) (sym e)
    ∙ take-append (slice_places x) r left
    ∙ ap (λ t. t ++ take (left - length (slice_places x)) r) (sym part)
    ∙ ap (λ k. slice_places a ++ take k r) long

-- Places up to the first whose pool fails a test.

abbrev at_pool : (ℕ → Bool) → Place → Bool
at_pool f p = f p.pool

passes : (f : ℕ → Bool) (x : Slice) (js : List ℕ) (t : List Place) → f x.hold.pool ≡ true
    → take_while (at_pool f) (map (place_in x) js ++ t) ≡ map (place_in x) js ++ take_while (at_pool f) t
passes f x [] t listed = refl
passes f x (j ∷ js) t listed =
    take_while-cons (at_pool f) (place_in x j) (map (place_in x) js ++ t)
    ∙ ap (λ b. cond b (place_in x j ∷ take_while (at_pool f) (map (place_in x) js ++ t)) []) listed
    ∙ ap (λ u. place_in x j ∷ u) (passes f x js t listed)

-- a slice whose pool passes, before others
pub take_while_step : (f : ℕ → Bool) (x : Slice) (left : ℕ) (qs : List Place) (rest : List Slice)
    → slice_places x ++ places rest ≡ qs → x.len ≤ left → f x.hold.pool ≡ true
    → take_while (at_pool f) (take left qs) ≡ slice_places x
    ++ take_while (at_pool f) (take (left - x.len) (places rest))
take_while_step f x left qs rest whole h listed =
    let long : length (slice_places x) ≡ x.len = length-slice_places x in
    ap (λ t. take_while (at_pool f) (take left t)) (sym whole)
    ∙ ap (take_while (at_pool f)) (take-append (slice_places x) (places rest) left
    ∙ ap (λ t. t ++ take (left - length (slice_places x)) (places rest))
    (take_all left (slice_places x) (omega arith)))
    ∙ passes f x (range_with_len x.from x.len) (take (left - length (slice_places x)) (places rest)) listed
    ∙ ap (λ k. slice_places x ++ take_while (at_pool f) (take (left - k) (places rest))) long

-- the pool of the first slice fails
pub take_while_none : (f : ℕ → Bool) (xs : List Slice) (x : Slice) (left : ℕ) → 0 < length xs → x ≡ get_or xs 0 x
    → 0 < left → f x.hold.pool ≡ false → take_while (at_pool f) (take left (places xs)) ≡ []
take_while_none f [] x left h e some barred = absurd (omega arith)
take_while_none f (y ∷ ys) x zero h e some barred = absurd (omega arith)
take_while_none f (y ∷ ys) x (suc left) h e some barred =
    let p : Place = place_in y y.from in
    let r : List Place = row y.hold.pool y.hold.buf (y.from + 1) (y.len - 1) ++ places ys in
    let first : f y.hold.pool ≡ false = ap (λ (z : Slice). f z.hold.pool) (sym e) ∙ barred in
    ap (λ t. take_while (at_pool f) (take (suc left) (t ++ places ys))) (slice_begins y)
    ∙ take_while-cons (at_pool f) p (take left r)
    ∙ ap (λ b. cond b (p ∷ take_while (at_pool f) (take left r)) []) first

-- A slice that is cut.

pub cut_first : (x y a : Slice) (left k : ℕ) → slice_places y ≡ slice_places x → k ≡ min x.len left
    → slice_places a ≡ slice_range (slice_places y) 0 k → slice_places a ≡ take left (slice_places x)
cut_first x y a left k shared e cut =
    let long : k - 0 ≡ min left (length (slice_places x)) = omega (arith, e, length-slice_places x) in
    cut ∙ ap (λ n. take n (slice_places y)) long ∙ ap (take (min left (length (slice_places x)))) shared
    ∙ take_min left (slice_places x)

pub cut_rest : (x y b : Slice) (k : ℕ) → slice_places y ≡ slice_places x
    → slice_places b ≡ slice_range (slice_places y) k x.len → slice_places b ≡ drop k (slice_places x)
cut_rest x y b k shared cut =
    cut ∙ ap (λ t. take (x.len - k) (drop k t)) shared
    ∙ take_all (x.len - k) (drop k (slice_places x))
    (omega (arith, length-drop k (slice_places x), length-slice_places x))
