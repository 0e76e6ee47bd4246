-- Writing the places of parts, one part after another.
use Rattle.std.proofs.Common.{inl, inr, ◌≡◌, ◌≢◌, ◌⊎◌, ◌+◌, ◌-◌, ◌<◌, ◌≤◌, ℕ, zero, suc, List, [], ◌∷◌, length, drop}
use Rattle.std.proofs.Common.{min, Option, None, Some, slice_get, slice_set, refl, sym, ap, ◌∙◌, subst, arith}
use Rattle.iol_hold.specs.Addresses.{Located}
use Rattle.iol_ffi.specs.Parts.{HasPart, IsPart, PlacesPart, WritesBelow, WritesPart}
use Rattle.iol_ffi.specs.declared.borrowed.IolPart.{IolPart}

set_same : {A : Type 0} (xs : List A) (i : ℕ) (y : A) → i < length xs → slice_get (slice_set xs i y) i ≡ Some y
set_same [] i y there = absurd (omega (arith, there))
set_same (z ∷ xs) zero y there = refl
set_same (z ∷ xs) (suc i) y there = set_same xs i y (omega (arith, there))

set_other : {A : Type 0} (xs : List A) (i j : ℕ) (y : A) → i ≢ j → slice_get (slice_set xs i y) j ≡ slice_get xs j
set_other [] i j y apart = refl
set_other (z ∷ xs) zero zero y apart = absurd (apart refl)
set_other (z ∷ xs) zero (suc j) y apart = refl
set_other (z ∷ xs) (suc i) zero y apart = refl
set_other (z ∷ xs) (suc i) (suc j) y apart = set_other xs i j y (λ same. apart (ap suc same))

set_length : {A : Type 0} (xs : List A) (i : ℕ) (y : A) → length (slice_set xs i y) ≡ length xs
set_length [] i y = refl
set_length (z ∷ xs) zero y = refl
set_length (z ∷ xs) (suc i) y = ap suc (set_length xs i y)

-- the first part that is left, and those after it
pub left_first : {A : Type 0} (xs rest : List A) (k : ℕ) (x : A) → drop k xs ≡ x ∷ rest → slice_get xs k ≡ Some x
left_first [] rest zero x is = absurd (cc)
left_first [] rest (suc k) x is = absurd (cc)
left_first (y ∷ xs) rest zero x is = cc
left_first (y ∷ xs) rest (suc k) x is = left_first xs rest k x is

pub left_rest : {A : Type 0} (xs rest : List A) (k : ℕ) (x : A) → drop k xs ≡ x ∷ rest → drop (suc k) xs ≡ rest
left_rest [] rest zero x is = absurd (cc)
left_rest [] rest (suc k) x is = absurd (cc)
left_rest (y ∷ xs) rest zero x is = cc
left_rest (y ∷ xs) rest (suc k) x is = left_rest xs rest k x is

pub writes_none : (parts : List Located) (skip : ℕ) (old : List IolPart) → WritesBelow 0 parts skip old old
writes_none parts skip old =
    record { len = refl; written = λ i bytes there below is. absurd (omega (arith, below)); kept = λ i above. refl }

-- no place is for a number below `skip`
writes_under : (k l : ℕ) (parts : List Located) (skip : ℕ) (old new : List IolPart) → k < skip → l ≤ skip
    → WritesBelow k parts skip old new → WritesBelow l parts skip old new
writes_under k l parts skip old new before within h = record {
  len = h.len;
  written = λ i bytes there below is. absurd (omega (arith, below, within));
  kept = λ i above. h.kept i (omega (arith, before));
}

-- a part without a place is not written
pub writes_full : (k : ℕ) (parts : List Located) (skip : ℕ) (old mid : List IolPart) → skip ≤ k → length mid ≤ k - skip
    → WritesBelow k parts skip old mid → WritesBelow (k + 1) parts skip old mid
writes_full k parts skip old mid past full h = record {
  len = h.len;
  written = λ i bytes there below is. h.written i bytes there (omega (arith, h.len, there, full, below, past)) is;
  kept = λ i above. h.kept i (omega (arith, above));
}

up : (m n : ℕ) → (m < n) ⊎ (m ≡ n) → (suc m < suc n) ⊎ (suc m ≡ suc n)
up m n (inl l) = inl (omega (arith, l))
up m n (inr e) = inr (ap suc e)

less_or : (m n : ℕ) → m < n + 1 → (m < n) ⊎ (m ≡ n)
less_or zero zero l = inr refl
less_or zero (suc n) l = inl (omega arith)
less_or (suc m) zero l = absurd (omega (arith, l))
less_or (suc m) (suc n) l = up m n (less_or m n (omega (arith, l)))

some-inj : {A : Type 0} (d : A) (o p : Option A) (x y : A) → o ≡ Some x → o ≡ Some y → x ≡ y
some-inj d o p x y a b = cc

-- a part that has a place
pub writes_placed : (k : ℕ) (parts : List Located) (skip : ℕ) (old mid new : List IolPart) (p : Located) (x : IolPart)
    → skip ≤ k → slice_get parts k ≡ Some p
    → k - skip < length mid → x.at ≡ p.at → x.len ≡ length p.bytes → new ≡ slice_set mid (k - skip) x
    → WritesBelow k parts skip old mid → WritesBelow (k + 1) parts skip old new
writes_placed k parts skip old mid new p x past is there at len set h = record {
  len = ap length set ∙ set_length mid (k - skip) x ∙ h.len;
  written = written;
  kept = λ i above. ap (λ l. slice_get l i) set
      ∙ set_other mid (k - skip) i x (λ same. absurd (omega (arith, same, above, past)))
      ∙ h.kept i (omega (arith, above));
}
  where
    here : (i : ℕ) (q : Located) → skip + i ≡ k → slice_get parts (skip + i) ≡ Some q → HasPart q (slice_get new i)
    here i q same got =
        let eq : q ≡ p = some-inj q (slice_get parts k) None q p (subst (λ n. slice_get parts n ≡ Some q) same got)
        is in
        let spot : k - skip ≡ i = omega (arith, same) in
        let set_here : slice_get new i ≡ Some x =
        subst (λ n. slice_get new n ≡ Some x) spot (ap (λ l. slice_get l (k - skip)) set
        ∙ set_same mid (k - skip) x there) in
        let placed : IsPart p x = record { at = at; len = len } in
        subst (λ o. HasPart q o) (sym set_here) (subst (λ l. IsPart l x) (sym eq) placed)

    before : (i : ℕ) (q : Located) → i < length old → skip + i < k → slice_get parts (skip + i) ≡ Some q
        → HasPart q (slice_get new i)
    before i q fits below got =
        let same : slice_get new i ≡ slice_get mid i = ap (λ l. slice_get l i) set
        ∙ set_other mid (k - skip) i x (λ eq. absurd (omega (arith, eq, below, past))) in
        subst (λ o. HasPart q o) (sym same) (h.written i q fits below got)

    either : (i : ℕ) (q : Located) → i < length old → (skip + i < k) ⊎ (skip + i ≡ k)
        → slice_get parts (skip + i) ≡ Some q → HasPart q (slice_get new i)
    either i q fits (inl below) got = before i q fits below got
    either i q fits (inr same) got = here i q same got

    written : (i : ℕ) (q : Located) → i < length old → skip + i < k + 1 → slice_get parts (skip + i) ≡ Some q
        → HasPart q (slice_get new i)
    written i q fits below got = either i q fits (less_or (skip + i) k below) got

pub writes_next : (k : ℕ) (parts : List Located) (skip : ℕ) (old mid new : List IolPart) (p : Located) → skip ≤ k
    → slice_get parts k ≡ Some p
    → PlacesPart p (k - skip) mid new → WritesBelow k parts skip old mid → WritesBelow (k + 1) parts skip old new
writes_next k parts skip old mid new p past is (inl (full, same)) h =
    subst (λ l. WritesBelow (k + 1) parts skip old l) (sym same) (writes_full k parts skip old mid past full h)
writes_next k parts skip old mid new p past is (inr (x, there, at, len, set)) h =
    writes_placed k parts skip old mid new p x past is there at len set h

-- a turn of the loop: the next part is written, and counted
pub writes_turn : (k l : ℕ) (parts left rest : List Located) (p : Located) (skip : ℕ) (old mid new : List IolPart)
    → l ≡ min (k + 1) 18446744073709551615 → k ≤ 18446744073709551615
    → (k < 18446744073709551615 → left ≡ drop k parts) → left ≡ p ∷ rest → WritesPart p k skip mid new
    → WritesBelow k parts skip old mid → WritesBelow l parts skip old new
writes_turn k l parts left rest p skip old mid new next fits at first (inl (before, same)) h =
    subst (λ r. WritesBelow l parts skip old r) (sym same)
    (writes_under k l parts skip old mid before (omega (arith, next, before)) h)
writes_turn k l parts left rest p skip old mid new next fits at first (inr (inl (last, same))) h =
    let stays : k ≡ l = omega (arith, next, fits, last) in
    subst (λ n. WritesBelow n parts skip old new) stays (subst (λ r. WritesBelow k parts skip old r) (sym same) h)
writes_turn k l parts left rest p skip old mid new next fits at first (inr (inr (past, few, places))) h =
    let more : k + 1 ≡ l = omega (arith, next, few) in
    let is : slice_get parts k ≡ Some p = left_first parts rest k p (sym (at few) ∙ first) in
    subst (λ n. WritesBelow n parts skip old new) more (writes_next k parts skip old mid new p past is places h)

-- the parts left after a turn
pub left_turn : (k l : ℕ) (parts left rest : List Located) (p : Located) → l ≡ min (k + 1) 18446744073709551615
    → (k < 18446744073709551615 → left ≡ drop k parts) → left ≡ p ∷ rest
    → l < 18446744073709551615 → rest ≡ drop l parts
left_turn k l parts left rest p next at first few =
    let more : suc k ≡ l = omega (arith, next, few) in
    let before : k < 18446744073709551615 = omega (arith, next, few) in
    subst (λ n. rest ≡ drop n parts) more (sym (left_rest parts rest k p (sym (at before) ∙ first)))
