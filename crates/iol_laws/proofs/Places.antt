-- Lookups by index and by number after a change.
use Rattle.std.proofs.Common.{inl, inr, zero, suc, ◌≡◌, ◌≢◌, ℕ, ◌⊎◌, List, [], ◌∷◌, ◌++◌, length, ap, ◌∙◌, refl, sym}
use Rattle.std.proofs.Common.{subst, arith, Option, Some, None, true}
use Rattle.std.specs.Prelude.{slice_set}
use Rattle.std.proofs.lemmas.Bool.{cases_eq, cases_lt}
use Rattle.std.proofs.lemmas.Bool.Decides.{nat_tests}
use Rattle.std.proofs.lemmas.Grind.{common_steps}
use Rattle.iol_core.specs.NumberedLists.{lookup, without, changed, in_place, lowest, placed, is_numbered, numbered_or}
use Rattle.iol_core.specs.NumberedLists.{with_numbered}
use Rattle.iol_core.proofs.Places.{place-set_other}

pub lookup-changed : {A : Type 0} (es : List (ℕ × A)) (m n : ℕ) (x : A) → m ≢ n
    → lookup (changed es m x) n ≡ lookup es n
lookup-changed [] m n x differ = refl
lookup-changed (e ∷ es) m n x differ =
    let r = lookup-changed es m n x differ in
    elim (cases_eq e.0 m) [
      | inl k ↦ grind (arith, nat_tests, common_steps, r, differ, k)
      | inr k ↦ elim (cases_eq e.0 n) [
        | inl l ↦ grind (arith, nat_tests, common_steps, k, l)
        | inr l ↦ grind (arith, nat_tests, common_steps, r, k, l)
      ]
    ]

pub lookup-changed_same : {A : Type 0} (es : List (ℕ × A)) (n : ℕ) (x y : A) → lookup es n ≡ Some y
    → lookup (changed es n x) n ≡ Some x
lookup-changed_same [] n x y is = absurd (cc)
lookup-changed_same (e ∷ es) n x y is =
    let r = lookup-changed_same es n x y in
    elim (cases_eq e.0 n) [
      | inl k ↦ grind (arith, nat_tests, common_steps, k)
      | inr k ↦ grind (arith, nat_tests, common_steps, r, is, k)
    ]

pub lookup-push_other : {A : Type 0} (es : List (ℕ × A)) (m n : ℕ) (x : A) → m ≢ n
    → lookup (es ++ (m, x) ∷ []) n ≡ lookup es n
lookup-push_other [] m n x differ = grind (arith, nat_tests, common_steps, differ)
lookup-push_other (e ∷ es) m n x differ =
    let r = lookup-push_other es m n x differ in
    elim (cases_eq e.0 n) [
      | inl k ↦ grind (arith, nat_tests, common_steps, k)
      | inr k ↦
          grind (arith, nat_tests, common_steps, r, k)
    ]

pub lookup-push : {A : Type 0} (es : List (ℕ × A)) (n : ℕ) (x : A) → lookup es n ≡ None
    → lookup (es ++ (n, x) ∷ []) n ≡ Some x
lookup-push [] n x none = grind (arith, nat_tests, common_steps)
lookup-push (e ∷ es) n x none =
    let r = lookup-push es n x in
    elim (cases_eq e.0 n) [
      | inl k ↦
          absurd (let z : lookup (e ∷ es) n ≡ Some e.1 = grind (arith, nat_tests, common_steps, k) in cc (z, none))
      | inr
          k ↦ grind (arith, nat_tests, common_steps, r, none, k)
    ]

pub lookup-without_none : {A : Type 0} (es : List (ℕ × A)) (m n : ℕ) → lookup es n ≡ None
    → lookup (without es m) n ≡ None
lookup-without_none [] m n none = refl
lookup-without_none (e ∷ es) m n none =
    let r = lookup-without_none es m n in
    elim (cases_eq e.0 n) [
      | inl k ↦ absurd (let z : lookup (e ∷ es) n ≡ Some e.1 = grind (arith, nat_tests, common_steps, k) in
          cc (z, none))
      | inr k ↦ elim (cases_eq e.0 m) [
        | inl l ↦ grind (arith, nat_tests, common_steps, none, k, l)
        | inr l ↦
            grind (arith, nat_tests, common_steps, r, none, k, l)
      ]
    ]

pub changed-none : {A : Type 0} (es : List (ℕ × A)) (n m : ℕ) (x : A) → lookup es m ≡ None
    → lookup (changed es n x) m ≡ None
changed-none [] n m x none = refl
changed-none (e ∷ es) n m x none =
    let r = changed-none es n m x in
    elim (cases_eq e.0 m) [
      | inl k ↦ absurd (let z : lookup (e ∷ es) m ≡ Some e.1 = grind (arith, nat_tests, common_steps, k) in
          cc (z, none))
      | inr k ↦ elim (cases_eq e.0 n) [
        | inl l ↦ grind (arith, nat_tests, common_steps, r, none, k, l)
        | inr l ↦
            grind (arith, nat_tests, common_steps, r, none, k, l)
      ]
    ]

-- Lists with free indices.

pub placed-cons : {A : Type 0} (y : A) (xs : List (Option A)) (x : A)
    → placed (Some y ∷ xs) (lowest (Some y ∷ xs)) x ≡ Some y ∷ placed xs (lowest xs) x
placed-cons y xs x =
    elim (cases_lt (lowest xs) (length xs)) [
      | inl k ↦ grind (arith, nat_tests, common_steps, k)
      | inr k ↦
          grind (arith, nat_tests, common_steps, k)
    ]

pub placed-none : {A : Type 0} (xs : List (Option A)) (x : A) → placed (None ∷ xs) (lowest (None ∷ xs)) x ≡ Some x ∷ xs
placed-none xs x = grind (arith, nat_tests, common_steps)

-- an element keeps its index when another one is placed
pub place-placed : {A : Type 0} (xs : List (Option A)) (x : A) (m : ℕ) (y : A) → in_place xs m ≡ Some y
    → in_place (placed xs (lowest xs) x) m ≡ Some y
place-placed [] x m y is = absurd (cc)
place-placed (None ∷ xs) x zero y is = absurd (cc)
place-placed (None ∷ xs) x (suc m) y is = rw (placed-none xs x) is
place-placed (Some z ∷ xs) x zero y is = rw (placed-cons z xs x) is
place-placed (Some z ∷ xs) x (suc m) y is = rw (placed-cons z xs x) (place-placed xs x m y is)

-- the new element is at the index that was the lowest free one
pub place-new : {A : Type 0} (xs : List (Option A)) (x : A) → in_place (placed xs (lowest xs) x) (lowest xs) ≡ Some x
place-new [] x = refl
place-new (None ∷ xs) x = rw (placed-none xs x) refl
place-new (Some z ∷ xs) x =
    let e : lowest (Some z ∷ xs) ≡ suc (lowest xs) = grind (arith, nat_tests, common_steps) in
    rw (placed-cons z xs x, e) (place-new xs x)

-- each element after that is the new one, or was there before
pub place-old : {A : Type 0} (xs : List (Option A)) (x : A) (m : ℕ) (y : A)
    → in_place (placed xs (lowest xs) x) m ≡ Some y → ((m ≡ lowest xs) × (y ≡ x)) ⊎ (in_place xs m ≡ Some y)
place-old [] x zero y is = inl (refl, grind (arith, is))
place-old [] x (suc m) y is = absurd (cc)
place-old {A = A} (None ∷ xs) x zero y is =
    inl (
      refl,
      (let e = subst (λ (l : List (Option A)). in_place l 0 ≡ Some y) (placed-none xs x) is in
          grind (arith, e)),
    )
place-old {A = A} (None ∷ xs) x (suc m) y is =
    inr (subst (λ (l : List (Option A)). in_place l (suc m) ≡ Some y) (placed-none xs x) is)
place-old {A = A} (Some z ∷ xs) x zero y is =
    inr (subst (λ (l : List (Option A)). in_place l 0 ≡ Some y) (placed-cons z xs x) is)
place-old {A = A} (Some z ∷ xs) x (suc m) y is =
    elim (place-old xs x m y (subst (λ (l : List (Option A)). in_place l (suc m) ≡ Some y) (placed-cons z xs x) is)) [
      | inl h ↦ inl (omega (arith, h.0), h.1)
      | inr h ↦ inr h
    ]

-- an index that is freed is free
pub place-set_free : {A : Type 0} (xs : List (Option A)) (n : ℕ) → in_place (slice_set xs n None) n ≡ None
place-set_free [] n = refl
place-set_free (z ∷ xs) zero = refl
place-set_free (z ∷ xs) (suc n) = place-set_free xs n

pub place-set_none : {A : Type 0} (xs : List (Option A)) (n m : ℕ) (y : A) → in_place (slice_set xs n None) m ≡ Some y
    → (n ≢ m) × (in_place xs m ≡ Some y)
place-set_none {A = A} xs n m y is = elim (cases_eq n m) [
  | inr differ ↦ (differ, sym (place-set_other xs n m None differ) ∙ is)
  | inl same ↦
      absurd (let free = place-set_free xs n in let here =
      subst (λ k. in_place (slice_set xs n None) k ≡ Some y) (sym same) is in cc (free, here))
]

pub place-set_there : {A : Type 0} (xs : List (Option A)) (n : ℕ) (x y : A) → in_place xs n ≡ Some x
    → in_place (slice_set xs n (Some y)) n ≡ Some y
place-set_there [] n x y is = absurd (cc)
place-set_there (z ∷ xs) zero x y is = refl
place-set_there (z ∷ xs) (suc n) x y is = place-set_there xs n x y is

pub place-placed_other : {A : Type 0} (xs : List (Option A)) (m : ℕ) (x : A) → lowest xs ≢ m
    → in_place (placed xs (lowest xs) x) m ≡ in_place xs m
place-placed_other [] zero x differ = absurd (differ refl)
place-placed_other [] (suc m) x differ = refl
place-placed_other (None ∷ xs) zero x differ = absurd (differ (grind (arith, nat_tests, common_steps)))
place-placed_other (None ∷ xs) (suc m) x differ = rw (placed-none xs x) refl
place-placed_other (Some z ∷ xs) zero x differ = rw (placed-cons z xs x) refl
place-placed_other (Some z ∷ xs) (suc m) x differ =
    let e : lowest (Some z ∷ xs) ≡ suc (lowest xs) = grind (arith, nat_tests, common_steps) in
    rw (placed-cons z xs x) (place-placed_other xs m x (λ same. differ (e ∙ ap suc same)))

-- the lowest free index is free
pub lowest-free : {A : Type 0} (xs : List (Option A)) → in_place xs (lowest xs) ≡ None
lowest-free [] = refl
lowest-free (None ∷ xs) = refl
lowest-free {A = A} (Some x ∷ xs) =
    (let e : lowest (Some x ∷ xs) ≡ suc (lowest xs) = grind (arith, nat_tests, common_steps) in
    ap (λ n. in_place (Some x ∷ xs) n) e ∙ lowest-free xs)

-- the element under an existing number, after it is set
pub numbered-set : {A : Type 0} (xs : List A) (n : ℕ) (x z : A) → is_numbered xs n ≡ true
    → numbered_or (with_numbered xs n x) n z ≡ x
numbered-set xs n x z is = grind (arith, nat_tests, common_steps, is)
