-- Lists under rising numbers, and searches in them.
use Rattle.std.proofs.Common.{◌≡◌, ◌≢◌, ℕ, zero, suc, ◌+◌, ◌<◌, ◌≤◌, ◌==◌, List, [], ◌∷◌, ◌++◌, length, get_or, Result}
use Rattle.std.proofs.Common.{Ok, Err, inl, inr, arith, sym, ap, refl}
use Rattle.std.specs.Prelude.{slice_set}
use Rattle.std.specs.List.Sorted.{IsSearchInRange, IsBinarySearchResult, IsNonDecreasingBy}
use Rattle.std.specs.Ordering.{nat_cmp, ordering_index}
use Rattle.std.specs.Result.{MatchResult}
use Rattle.std.proofs.lemmas.Bool.{cases_lt}
use Rattle.std.proofs.lemmas.Cmp.{ranked}
use Rattle.std.proofs.lemmas.List.Sorted.{IsNonDecreasingBy-from_default}
use Rattle.std.proofs.lemmas.List.Sums.{position_or_len_is}
use Rattle.std.proofs.lemmas.Bool.Decides.{nat_tests}
use Rattle.iol_desc.specs.Tables.{place_in}
use Rattle.iol_desc.specs.EntryLists.{Rises, IsRising}

pub rises-lower : {X : Type 0} (es : List (ℕ × X)) (a b to : ℕ) → Rises a es to → b ≤ a → Rises b es to
rises-lower [] a b to r le = omega arith
rises-lower (e ∷ es) a b to r le = (omega (arith, r.0), r.1)

rises-get : {X : Type 0} (es : List (ℕ × X)) (from to i : ℕ) (d : ℕ × X) → Rises from es to → i < length es
    → from ≤ (get_or es i d).0
rises-get [] from to i d r lt = absurd (omega arith)
rises-get (e ∷ es) from to zero d r lt = r.0
rises-get (e ∷ es) from to (suc i) d r lt = omega (arith, r.0, rises-get es (e.0 + 1) to i d r.1 (omega arith))

rises-order : {X : Type 0} (es : List (ℕ × X)) (from to i j : ℕ) (d : ℕ × X) → Rises from es to → i < j → j < length es
    → (get_or es i d).0 < (get_or es j d).0
rises-order [] from to i j d r lt within = absurd (omega arith)
rises-order (e ∷ es) from to i zero d r lt within = absurd (omega arith)
rises-order (e ∷ es) from to zero (suc j) d r lt within = omega (arith, rises-get es (e.0 + 1) to j d r.1 (omega arith))
rises-order (e ∷ es) from to (suc i) (suc j) d r lt within =
    rises-order es (e.0 + 1) to i j d r.1 (omega arith) (omega arith)

pub rises-set : {X : Type 0} (es : List (ℕ × X)) (from to i : ℕ) (d e : ℕ × X) → Rises from es to
    → e.0 ≡ (get_or es i d).0 → Rises from (slice_set es i e) to
rises-set [] from to i d e r same = r
rises-set (x ∷ es) from to zero d e r same =
    (omega (arith, r.0), rises-lower es (x.0 + 1) (e.0 + 1) to r.1 (omega arith))
rises-set (x ∷ es) from to (suc i) d e r same = (r.0, rises-set es (x.0 + 1) to i d e r.1 same)

pub rises-push : {X : Type 0} (es : List (ℕ × X)) (from to : ℕ) (x : X) → Rises from es to
    → Rises from (es ++ (to, x) ∷ []) (to + 1)
rises-push [] from to x r = (r, omega arith)
rises-push (e ∷ es) from to x r = (r.0, rises-push es (e.0 + 1) to x r.1)

-- The result of a binary search.

numbers-rise : {X : Type 0} (es : List (ℕ × X)) (to n : ℕ) (d : ℕ × X) → Rises 0 es to
    → IsNonDecreasingBy (λ (e : ℕ × X). ordering_index (nat_cmp e.0 n)) es
numbers-rise {X} es to n d r =
    IsNonDecreasingBy-from_default (λ (e : ℕ × X). ordering_index (nat_cmp e.0 n)) es d (λ i j le within.
    let rise : (get_or es i d).0 ≤ (get_or es j d).0 =
    grind (arith, rises-order es 0 to i j d r, λ (same : i ≡ j). ap (λ (k : ℕ). (get_or es k d).0) same) in
    grind (arith, nat_tests))

pub found_place : {X : Type 0} (es : List (ℕ × X)) (n i : ℕ) (d : ℕ × X) → IsRising es → i < length es
    → (get_or es i d).0 ≡ n → i ≡ place_in es n
found_place {X} es n i d rising lt is = sym (position_or_len_is (λ (e : ℕ × X). e.0 == n) es i d (omega arith)
    (λ k below. let less = rises-order es 0 rising.reported.0 k i d rising.reported.1 below lt in
    grind (arith, nat_tests, less, is))
    (λ within. grind (arith, nat_tests, is)))

pub absent_place : {X : Type 0} (es : List (ℕ × X)) (n : ℕ) (d : ℕ × X)
    → ((k : ℕ) → k < length es → (get_or es k d).0 ≢ n) → length es ≡ place_in es n
absent_place {X} es n d none = sym (position_or_len_is (λ (e : ℕ × X). e.0 == n) es (length es) d (omega arith)
    (λ k below. grind (arith, nat_tests, none k below))
    (λ within. absurd (omega arith)))

searched : {X : Type 0} (es : List (ℕ × X)) (n : ℕ) (d : ℕ × X) → IsRising es → (r : Result ℕ ℕ)
    → IsSearchInRange r (length es) → IsBinarySearchResult (λ (e : ℕ × X). nat_cmp e.0 n) es r
    → MatchResult r (λ i. i ≡ place_in es n) (λ i. length es ≡ place_in es n)
searched es n d rising (Ok i) within equal = found_place es n i d rising within (ranked _ n _ (sym (equal d)))
searched es n d rising (Err i) within parted =
    let parts = parted (numbers-rise es rising.reported.0 n d rising.reported.1) in
    absent_place es n d (λ k lt same. elim (cases_lt k i) [
      | inl below ↦ (let less : (get_or es k d).0 < n = ranked _ n _ (sym (parts.0 k d (omega arith) below)) in
          omega (arith, less, same))
      | inr above ↦ (let more : n < (get_or es k d).0 = ranked _ n _ (sym (parts.1 k d above lt)) in
          omega (arith, more, same))
    ])

-- an empty list has no element to compare with
pub searched_any : {X : Type 0} (es : List (ℕ × X)) (n : ℕ) → IsRising es → (r : Result ℕ ℕ)
    → IsSearchInRange r (length es) → IsBinarySearchResult (λ (e : ℕ × X). nat_cmp e.0 n) es r
    → MatchResult r (λ i. i ≡ place_in es n) (λ i. length es ≡ place_in es n)
searched_any [] n rising (Ok i) within equal = absurd (omega (arith, within))
searched_any [] n rising (Err i) within parted = refl
searched_any (e ∷ es) n rising r within found = searched (e ∷ es) n e rising r within found
