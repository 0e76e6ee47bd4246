-- Indices in ascending order.
use mathlib.Core.Bool.{beq}
use Rattle.std.proofs.Common.{◌≡◌, ⊎_elim, ℕ, zero, suc, ◌<◌, ◌≤◌, List, [], ◌∷◌, ◌++◌, length, get_or, take, drop, ap}
use Rattle.std.proofs.Common.{◌∙◌, refl, sym, subst, arith, Bool, true, false, cond, Option, Some, None}
use Rattle.std.specs.Prelude.{filter, find, insert, remove, nat_lt, nat_le, not, if◌then◌else◌}
use Rattle.std.specs.List.Sorted.{IsStrictlyIncreasing, IsPartitionedBy, IsPartitionPoint}
use Rattle.std.proofs.lemmas.Bool.{cases_eq}
use Rattle.std.proofs.lemmas.Bool.Decides.{nat_tests}
use Rattle.std.proofs.lemmas.List.{append_cancel_left, take-append-drop}
use Rattle.std.proofs.lemmas.List.Edits.{length-insert}
use Rattle.std.proofs.lemmas.List.Kept.{AllPairs-from_increasing}
use Rattle.flash_lite.specs.Order.{marked}

-- ---- a list partitioned by a test

pub all_fail : {X : Type 0} (p : X → Bool) (xs : List X) → ((k : ℕ) (d : X) → k < length xs → p (get_or xs k d) ≡ false)
    → filter p xs ≡ []
all_fail p [] each = refl
all_fail p (x ∷ xs) each = ap (λ b. cond b (x ∷ filter p xs) (filter p xs)) (each 0 x (omega arith))
    ∙ all_fail p xs (λ k d lt. each (suc k) d (omega (arith, lt)))

pub all_pass : {X : Type 0} (p : X → Bool) (xs : List X) → ((k : ℕ) (d : X) → k < length xs → p (get_or xs k d) ≡ true)
    → filter p xs ≡ xs
all_pass p [] each = refl
all_pass p (x ∷ xs) each =
    ap (λ b. cond b (x ∷ filter p xs) (filter p xs)) (each 0 x (omega arith))
    ∙ ap (λ l. x ∷ l) (all_pass p xs (λ k d lt. each (suc k) d (omega (arith, lt))))

pub passes_before : {X : Type 0} (p : X → Bool) (xs : List X) (i : ℕ)
    → IsPartitionPoint (λ y. p y ≡ true) (λ y. p y ≡ false) xs i → i ≤ length xs → take i xs ≡ filter p xs
passes_before p [] i point le = let none : i ≡ 0 = omega (arith, le) in ap (λ k. take k []) none
passes_before p (x ∷ xs) zero point le = sym (all_fail p (x ∷ xs) (λ k d lt. point.1 k d (omega arith) lt))
passes_before p (x ∷ xs) (suc i) point le =
    ap (λ l. x ∷ l) (passes_before p xs i (
      λ k d low lt. point.0 (suc k) d (omega arith) (omega (arith, lt)),
      λ k d low lt. point.1 (suc k) d (omega (arith, low)) (omega (arith, lt)),
    ) (omega (arith, le)))
    ∙ ap (λ b. cond b (x ∷ filter p xs) (filter p xs)) (sym (point.0 0 x (omega arith) (omega arith)))

pub fails_after : {X : Type 0} (p q : X → Bool) (xs : List X) (i : ℕ) → ((y : X) → q y ≡ not (p y))
    → IsPartitionPoint (λ y. p y ≡ true) (λ y. p y ≡ false) xs i → i ≤ length xs
    → drop i xs ≡ filter q xs
fails_after p q [] i other point le = let none : i ≡ 0 = omega (arith, le) in ap (λ k. drop k []) none
fails_after p q (x ∷ xs) zero other point le =
    sym (all_pass q (x ∷ xs) (λ k d lt. other (get_or (x ∷ xs) k d) ∙ ap (λ b. not b) (point.1 k d (omega arith) lt)))
fails_after p q (x ∷ xs) (suc i) other point le =
    fails_after p q xs i other (
      λ k d low lt. point.0 (suc k) d (omega arith) (omega (arith, lt)),
      λ k d low lt. point.1 (suc k) d (omega (arith, low)) (omega (arith, lt)),
    ) (omega (arith, le))
    ∙ ap (λ b. cond b (x ∷ filter q xs) (filter q xs))
    (sym (other x ∙ ap (λ b. not b) (point.0 0 x (omega arith) (omega arith))))

-- ---- in ascending order

pub parted : (xs : List ℕ) (place : ℕ) → IsStrictlyIncreasing xs → IsPartitionedBy (λ k. nat_lt k place) xs
parted xs place up i j d le lt below =
    ⊎_elim
    (λ same. subst (λ n. nat_lt (get_or xs n d) place ≡ true) (sym same) below)
    (λ apart. let step : get_or xs i d < get_or xs j d = AllPairs-from_increasing xs up i j d (omega arith) lt in
    grind (arith, nat_tests, step, below))
    (cases_eq i j)

pub not_below : (place k : ℕ) → nat_le place k ≡ not (nat_lt k place)
not_below place k = grind (arith, nat_tests)

-- ---- an index is inserted or removed

abbrev first : List ℕ → Option ℕ
first [] = None
first (x ∷ xs) = Some x

abbrev rest_of : List ℕ → List ℕ
rest_of [] = []
rest_of (x ∷ xs) = xs

drop_rest : (at : ℕ) (xs : List ℕ) → drop (suc at) xs ≡ rest_of (drop at xs)
drop_rest zero [] = refl
drop_rest (suc at) [] = refl
drop_rest zero (x ∷ xs) = refl
drop_rest (suc at) (x ∷ xs) = drop_rest at xs

find_first : (p : ℕ → Bool) (xs : List ℕ) → find p xs ≡ first (filter p xs)
find_first p [] = refl
find_first p (x ∷ xs) = by (find_first p xs) (p x)
  where
    by : find p xs ≡ first (filter p xs) → (b : Bool)
        → cond b (Some x) (find p xs) ≡ first (cond b (x ∷ filter p xs) (filter p xs))
    by rest true = refl
    by rest false = rest

first_drop : (at : ℕ) (xs : List ℕ) (d : ℕ) → at < length xs → first (drop at xs) ≡ Some (get_or xs at d)
first_drop at [] d lt = absurd (omega (arith, lt))
first_drop zero (x ∷ xs) d lt = refl
first_drop (suc at) (x ∷ xs) d lt = first_drop at xs d (omega (arith, lt))

no_drop : (at : ℕ) (xs : List ℕ) → length xs ≤ at → first (drop at xs) ≡ None
no_drop zero [] le = refl
no_drop (suc at) [] le = refl
no_drop zero (x ∷ xs) le = absurd (omega (arith, le))
no_drop (suc at) (x ∷ xs) le = no_drop at xs (omega (arith, le))

pub found_at : (p : ℕ → Bool) (xs : List ℕ) (at d : ℕ) → drop at xs ≡ filter p xs → at < length xs
    → find p xs ≡ Some (get_or xs at d)
found_at p xs at d rest lt = find_first p xs ∙ (ap (λ l. first l) (sym rest) ∙ first_drop at xs d lt)

pub found_none : (p : ℕ → Bool) (xs : List ℕ) (at : ℕ) → drop at xs ≡ filter p xs → length xs ≤ at → find p xs ≡ None
found_none p xs at rest le = find_first p xs ∙ (ap (λ l. first l) (sym rest) ∙ no_drop at xs le)

-- `at` is the number of indices below a place; `was` says whether the place is among them
pub record Sought (xs : List ℕ) (place at : ℕ) (was : Bool) : Type 0 where
  pub below : take at xs ≡ filter (λ k. nat_lt k place) xs
  pub rest : drop at xs ≡ (if was then place ∷ [] else []) ++ filter (λ k. nat_lt place k) xs
  pub within : at ≤ length xs

other : (a b : Bool) → beq a b ≡ false → a ≡ not b
other true true apart = absurd (cc)
other true false apart = refl
other false true apart = refl
other false false apart = absurd (cc)

-- the same, counted in a slice that has the same elements
pub sought : (xs ys : List ℕ) (place at : ℕ) (was there : Bool) → ys ≡ xs → beq was there ≡ false
    → marked xs place was ≡ xs → take at ys ≡ filter (λ k. nat_lt k place) ys → at ≤ length ys
    → Sought xs place at (not there)
sought xs ys place at was there ys_is apart stands below within =
    let low : take at xs ≡ filter (λ k. nat_lt k place) xs =
    subst (λ l. take at l ≡ filter (λ k. nat_lt k place) l) ys_is below in
    let beyond : List ℕ = (if was then place ∷ [] else []) ++ filter (λ k. nat_lt place k) xs in
    let high : drop at xs ≡ beyond =
    append_cancel_left (take at xs) (drop at xs) beyond (take-append-drop at xs
    ∙ (sym stands ∙ ap (λ l. l ++ beyond) (sym low))) in
    record {
      below = low;
      rest = subst (λ b. drop at xs ≡ (if b then place ∷ [] else []) ++ filter (λ k. nat_lt place k) xs)
          (other was there apart) high;
      within = subst (λ (l : List ℕ). at ≤ length l) ys_is within;
    }

module _ {xs : List ℕ} {place at : ℕ} where
  pub put_in : (there : Bool) → Sought xs place at (not there) → there ≡ true
      → insert xs at place ≡ marked xs place there
  put_in true s is = ap (λ l. l ++ place ∷ drop at xs) s.below
      ∙ ap (λ l. filter (λ k. nat_lt k place) xs ++ place ∷ l) s.rest
  put_in false s is = absurd (cc)

  pub taken_out : (there : Bool) → Sought xs place at (not there) → there ≡ false → remove xs at ≡ marked xs place there
  taken_out true s is = absurd (cc)
  taken_out false s is =
      ap (λ l. l ++ drop (suc at) xs) s.below
      ∙ ap (λ l. filter (λ k. nat_lt k place) xs ++ l) (drop_rest at xs ∙ ap (λ l. rest_of l) s.rest)

  pub has_room : (there : Bool) → Sought xs place at (not there) → there ≡ true → (room : ℕ)
      → length (marked xs place there) ≤ room → length xs < room
  has_room there s is room fits = let long = length-insert xs at place s.within in let same =
      ap (λ (l : List ℕ). length l) (put_in there s is) in omega (arith, long, same, fits)
