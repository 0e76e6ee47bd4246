-- Lists with increasing numbers, of which one entry changes or is removed.
use Rattle.std.proofs.Common.{◌≡◌, ◌≢◌, ℕ, ◌+◌, ◌<◌, ◌≤◌, ◌==◌, Bool, List, [], ◌∷◌, ◌++◌, length, map, ap, ◌∙◌, refl}
use Rattle.std.specs.List.{AllByRecursion}
use Rattle.std.proofs.Common.{sym, subst, arith, Some, None, true, false, inl, inr}
use Rattle.std.specs.Prelude.{if◌then◌else◌, sum_by}
use Rattle.std.proofs.lemmas.Bool.{cases_eq}
use Rattle.std.proofs.lemmas.Bool.Decides.{nat_tests}
use Rattle.std.proofs.lemmas.List.Sums.{sum_by-cons}
use Rattle.iol_core.specs.NumberedLists.{lookup, without, changed}
use Rattle.iol_desc.specs.EntryLists.{Rises}

-- the entry of a number, with another value

pub changed_here : {A : Type 0} (e : ℕ × A) (es : List (ℕ × A)) (n : ℕ) (y : A) → e.0 ≡ n
    → changed (e ∷ es) n y ≡ (n, y) ∷ changed es n y
changed_here e es n y k = grind (arith, nat_tests, k)

pub changed_later : {A : Type 0} (e : ℕ × A) (es : List (ℕ × A)) (n : ℕ) (y : A) → e.0 ≢ n
    → changed (e ∷ es) n y ≡ e ∷ changed es n y
changed_later e es n y k = grind (arith, nat_tests, k)

without_here : {A : Type 0} (e : ℕ × A) (es : List (ℕ × A)) (n : ℕ) → e.0 ≡ n → without (e ∷ es) n ≡ es
without_here e es n k = grind (arith, nat_tests, k)

without_later : {A : Type 0} (e : ℕ × A) (es : List (ℕ × A)) (n : ℕ) → e.0 ≢ n → without (e ∷ es) n ≡ e ∷ without es n
without_later e es n k = grind (arith, nat_tests, k)

pub lookup_here : {A : Type 0} (e : ℕ × A) (es : List (ℕ × A)) (n : ℕ) → e.0 ≡ n → lookup (e ∷ es) n ≡ Some e.1
lookup_here e es n k = grind (arith, nat_tests, k)

pub lookup_later : {A : Type 0} (e : ℕ × A) (es : List (ℕ × A)) (n : ℕ) → e.0 ≢ n → lookup (e ∷ es) n ≡ lookup es n
lookup_later e es n k = grind (arith, nat_tests, k)

some_is : {A : Type 0} (x y : A) → Some x ≡ Some y → x ≡ y
some_is x y e = cc

-- look-ups

pub lookup-changed : {A : Type 0} (es : List (ℕ × A)) (n : ℕ) (x y : A) → lookup es n ≡ Some x
    → lookup (changed es n y) n ≡ Some y
lookup-changed [] n x y is = absurd cc
lookup-changed {A} (e ∷ es) n x y is = elim (cases_eq e.0 n) [
  | inl k ↦ ap (λ (l : List (ℕ × A)). lookup l n) (changed_here e es n y k) ∙ lookup_here (n, y) (changed es n y) n refl
  | inr k ↦ ap (λ (l : List (ℕ × A)). lookup l n) (changed_later e es n y k) ∙ lookup_later e (changed es n y) n k
      ∙ lookup-changed es n x y (sym (lookup_later e es n k) ∙ is)
]

pub lookup-changed_other : {A : Type 0} (es : List (ℕ × A)) (m n : ℕ) (y : A) → m ≢ n
    → lookup (changed es m y) n ≡ lookup es n
lookup-changed_other [] m n y differ = refl
lookup-changed_other {A} (e ∷ es) m n y differ = elim (cases_eq e.0 m) [
  | inl k ↦ (let other : e.0 ≢ n = λ i. differ (sym k ∙ i) in
      ap (λ (l : List (ℕ × A)). lookup l n) (changed_here e es m y k) ∙ lookup_later (m, y) (changed es m y) n differ
      ∙ lookup-changed_other es m n y differ ∙ sym (lookup_later e es n other))
  | inr k ↦ ap (λ (l : List (ℕ × A)). lookup l n) (changed_later e es m y k) ∙ elim (cases_eq e.0 n) [
    | inl l ↦ lookup_here e (changed es m y) n l ∙ sym (lookup_here e es n l)
    | inr l ↦ lookup_later e (changed es m y) n l ∙ lookup-changed_other es m n y differ ∙ sym (lookup_later e es n l)
  ]
]

pub lookup-push : {A : Type 0} (es : List (ℕ × A)) (m n : ℕ) (y : A) → lookup es n ≢ None
    → lookup (es ++ (m, y) ∷ []) n ≡ lookup es n
lookup-push [] m n y there = absurd (there refl)
lookup-push {A} (e ∷ es) m n y there = elim (cases_eq e.0 n) [
  | inl k ↦ lookup_here e (es ++ (m, y) ∷ []) n k ∙ sym (lookup_here e es n k)
  | inr k ↦ lookup_later e (es ++ (m, y) ∷ []) n k ∙ lookup-push es m n y (λ none. there (lookup_later e es n k ∙ none))
      ∙ sym (lookup_later e es n k)
]

-- numbers below all of a list

pub changed_below : {A : Type 0} (es : List (ℕ × A)) (from to n : ℕ) (y : A) → Rises from es to → n < from
    → changed es n y ≡ es
changed_below [] from to n y rises lt = refl
changed_below {A} (e ∷ es) from to n y rises lt =
    let low = rises.0 in
    changed_later e es n y (λ i. absurd (omega (arith, i, lt, low)))
    ∙ ap (λ (l : List (ℕ × A)). e ∷ l) (changed_below es (e.0 + 1) to n y rises.1 (omega (arith, lt, low)))

-- a value that changes twice, or into itself

pub changed_same : {A : Type 0} (es : List (ℕ × A)) (from to n : ℕ) (x : A) → Rises from es to → lookup es n ≡ Some x
    → changed es n x ≡ es
changed_same [] from to n x rises is = refl
changed_same {A} (e ∷ es) from to n x rises is = elim (cases_eq e.0 n) [
  | inl k ↦ changed_here e es n x k
      ∙ ap (λ (l : List (ℕ × A)). (n, x) ∷ l) (changed_below es (e.0 + 1) to n x rises.1 (omega (arith, k)))
      ∙ entry e x (sym k) (some_is x e.1 (sym is ∙ lookup_here e es n k))
  | inr k ↦ changed_later e es n x k
      ∙ ap (λ (l : List (ℕ × A)). e ∷ l) (changed_same es (e.0 + 1) to n x rises.1 (sym (lookup_later e es n k) ∙ is))
]
  where
    entry : (e : ℕ × A) (x : A) → n ≡ e.0 → x ≡ e.1 → ◌≡◌ {A = List (ℕ × A)} ((n, x) ∷ es) (e ∷ es)
    entry e x k l = λ i. (k i, l i) ∷ es

pub without_changed : {A : Type 0} (es : List (ℕ × A)) (from to n : ℕ) (y : A) → Rises from es to
    → without (changed es n y) n ≡ without es n
without_changed [] from to n y rises = refl
without_changed {A} (e ∷ es) from to n y rises = elim (cases_eq e.0 n) [
  | inl k ↦ ap (λ (l : List (ℕ × A)). without l n) (changed_here e es n y k)
      ∙ without_here (n, y) (changed es n y) n refl ∙ changed_below es (e.0 + 1) to n y rises.1 (omega (arith, k))
      ∙ sym (without_here e es n k)
  | inr k ↦ ap (λ (l : List (ℕ × A)). without l n) (changed_later e es n y k) ∙ without_later e (changed es n y) n k
      ∙ ap (λ (l : List (ℕ × A)). e ∷ l) (without_changed es (e.0 + 1) to n y rises.1) ∙ sym (without_later e es n k)
]

-- as they are read

pub changed-map : {A B : Type 0} (g : A → B) (es : List (ℕ × A)) (n : ℕ) (y : A)
    → map {B = ℕ × B} (λ e. (e.0, g e.1)) (changed es n y) ≡ changed (map (λ e. (e.0, g e.1)) es) n (g y)
changed-map g [] n y = refl
changed-map {A} {B} g (e ∷ es) n y =
    let r = changed-map g es n y in
    elim (cases_eq e.0 n) [
      | inl k ↦ ap (map {B = ℕ × B} (λ (e : ℕ × A). (e.0, g e.1))) (changed_here e es n y k)
          ∙ ap (λ (l : List (ℕ × B)). (n, g y) ∷ l) r
          ∙ sym (changed_here {A = B} (e.0, g e.1) (map (λ e. (e.0, g e.1)) es) n (g y) k)
      | inr k ↦ ap (map {B = ℕ × B} (λ (e : ℕ × A). (e.0, g e.1))) (changed_later e es n y k)
          ∙ ap (λ (l : List (ℕ × B)). (e.0, g e.1) ∷ l) r
          ∙ sym (changed_later {A = B} (e.0, g e.1) (map (λ e. (e.0, g e.1)) es) n (g y) k)
    ]

-- their numbers still increase

pub rises-map : {A B : Type 0} (g : A → B) (es : List (ℕ × A)) (from to : ℕ) → Rises from es to
    → Rises from (map {B = ℕ × B} (λ e. (e.0, g e.1)) es) to
rises-map g [] from to rises = rises
rises-map g (e ∷ es) from to rises = (rises.0, rises-map g es (e.0 + 1) to rises.1)

pub rises-changed : {A : Type 0} (es : List (ℕ × A)) (from to n : ℕ) (y : A) → Rises from es to
    → Rises from (changed es n y) to
rises-changed [] from to n y rises = rises
rises-changed {A} (e ∷ es) from to n y rises =
    let r = rises-changed es (e.0 + 1) to n y rises.1 in
    elim (cases_eq e.0 n) [
      | inl k ↦
          (let same : Rises from ((n, y) ∷ changed es n y) to =
          (subst (λ m. from ≤ m) k rises.0, subst (λ m. Rises (m + 1) (changed es n y) to) k r) in
          subst (λ (l : List (ℕ × A)). Rises from l to) (sym (changed_here e es n y k)) same)
      | inr k ↦ (let same : Rises from (e ∷ changed es n y) to = (rises.0, r) in
          subst (λ (l : List (ℕ × A)). Rises from l to) (sym (changed_later e es n y k)) same)
    ]

rises-lower : {A : Type 0} (es : List (ℕ × A)) (from low to : ℕ) → low ≤ from → Rises from es to → Rises low es to
rises-lower [] from low to le rises = omega (arith, le, rises)
rises-lower (e ∷ es) from low to le rises = let first = rises.0 in (omega (arith, le, first), rises.1)

pub rises-without : {A : Type 0} (es : List (ℕ × A)) (from to n : ℕ) → Rises from es to → Rises from (without es n) to
rises-without [] from to n rises = rises
rises-without {A} (e ∷ es) from to n rises = elim (cases_eq e.0 n) [
  | inl k ↦
      (let first = rises.0 in
      subst (λ (l : List (ℕ × A)). Rises from l to) (sym (without_here e es n k))
      (rises-lower es (e.0 + 1) from to (omega (arith, first)) rises.1))
  | inr k ↦ (let same : Rises from (e ∷ without es n) to = (rises.0, rises-without es (e.0 + 1) to n rises.1) in
      subst (λ (l : List (ℕ × A)). Rises from l to) (sym (without_later e es n k)) same)
]

pub rises-push : {A : Type 0} (es : List (ℕ × A)) (from to : ℕ) (x : A) → Rises from es to
    → Rises from (es ++ (to, x) ∷ []) (to + 1)
rises-push [] from to x rises = (rises, omega arith)
rises-push (e ∷ es) from to x rises = (rises.0, rises-push es (e.0 + 1) to x rises.1)

-- no entry has the next number
rises_to : {A : Type 0} (es : List (ℕ × A)) (from to : ℕ) → Rises from es to → from ≤ to
rises_to [] from to rises = rises
rises_to (e ∷ es) from to rises = let first = rises.0 in omega (arith, first, rises_to es (e.0 + 1) to rises.1)

pub lookup_above : {A : Type 0} (es : List (ℕ × A)) (from to : ℕ) → Rises from es to → lookup es to ≡ None
lookup_above [] from to rises = refl
lookup_above (e ∷ es) from to rises =
    lookup_later e es to (λ i. absurd (omega (arith, i, rises_to es (e.0 + 1) to rises.1)))
    ∙ lookup_above es (e.0 + 1) to rises.1

-- facts of each entry

pub each-changed : {A : Type 0} (P : ℕ × A → Type 0) (es : List (ℕ × A)) (n : ℕ) (y : A) → AllByRecursion P es
    → P (n, y)
    → AllByRecursion P (changed es n y)
each-changed P [] n y e p = tt
each-changed {A} P (x ∷ es) n y e p = (pick (x.0 == n), each-changed P es n y e.1 p)
  where
    pick : (b : Bool) → P (if b then (n, y) else x)
    pick true = p
    pick false = e.0

pub each-without_any : {A : Type 0} (P : ℕ × A → Type 0) (es : List (ℕ × A)) (n : ℕ) → AllByRecursion P es
    → AllByRecursion P (without es n)
each-without_any P [] n e = tt
each-without_any {A} P (x ∷ es) n e = elim (cases_eq x.0 n) [
  | inl k ↦ subst (λ (l : List (ℕ × A)). AllByRecursion P l) (sym (without_here x es n k)) e.1
  | inr k ↦ (let same : AllByRecursion P (x ∷ without es n) = (e.0, each-without_any P es n e.1) in
      subst (λ (l : List (ℕ × A)). AllByRecursion P l) (sym (without_later x es n k)) same)
]

pub each_found : {A : Type 0} (P : ℕ × A → Type 0) (es : List (ℕ × A)) (n : ℕ) (x : A) → AllByRecursion P es
    → lookup es n ≡ Some x → P (n, x)
each_found P [] n x e is = absurd cc
each_found {A} P (y ∷ es) n x e is = elim (cases_eq y.0 n) [
  | inl k ↦ subst P (pair y k (some_is y.1 x (sym (lookup_here y es n k) ∙ is))) e.0
  | inr k ↦ each_found P es n x e.1 (sym (lookup_later y es n k) ∙ is)
]
  where
    pair : (y : ℕ × A) → y.0 ≡ n → y.1 ≡ x → ◌≡◌ {A = ℕ × A} y (n, x)
    pair y k l = λ i. (k i, l i)

-- sums over all

pub sum-changed : {A : Type 0} (w : ℕ × A → ℕ) (es : List (ℕ × A)) (from to n : ℕ) (x y : A) → Rises from es to
    → lookup es n ≡ Some x → sum_by w (changed es n y) + w (n, x) ≡ sum_by w es + w (n, y)
sum-changed w [] from to n x y rises is = absurd cc
sum-changed {A} w (e ∷ es) from to n x y rises is = elim (cases_eq e.0 n) [
  | inl k ↦ (let rest = changed_below es (e.0 + 1) to n y rises.1 (omega (arith, k)) in
      let same : ◌≡◌ {A = ℕ × A} e (n, x) =
      (let l = some_is e.1 x (sym (lookup_here e es n k) ∙ is) in λ i. (k i, l i)) in
      omega (
        arith,
        ap (sum_by w) (changed_here e es n y k),
        sum_by-cons w (n, y) (changed es n y),
        ap (sum_by w) rest,
        sum_by-cons w e es,
        ap w same,
      ))
  | inr k ↦ (let r = sum-changed w es (e.0 + 1) to n x y rises.1 (sym (lookup_later e es n k) ∙ is) in
      omega (arith, ap (sum_by w) (changed_later e es n y k), sum_by-cons w e (changed es n y), sum_by-cons w e es, r))
]

pub sum-without : {A : Type 0} (w : ℕ × A → ℕ) (es : List (ℕ × A)) (n : ℕ) (x : A) → lookup es n ≡ Some x
    → sum_by w (without es n) + w (n, x) ≡ sum_by w es
sum-without w [] n x is = absurd cc
sum-without {A} w (e ∷ es) n x is = elim (cases_eq e.0 n) [
  | inl k ↦
      (let same : ◌≡◌ {A = ℕ × A} e (n, x) =
      (let l = some_is e.1 x (sym (lookup_here e es n k) ∙ is) in λ i. (k i, l i)) in
      omega (arith, ap (sum_by w) (without_here e es n k), sum_by-cons w e es, ap w same))
  | inr k ↦ (let r = sum-without w es n x (sym (lookup_later e es n k) ∙ is) in
      omega (arith, ap (sum_by w) (without_later e es n k), sum_by-cons w e (without es n), sum_by-cons w e es, r))
]

pub length-without_any : {A : Type 0} (es : List (ℕ × A)) (n : ℕ) → length (without es n) ≤ length es
length-without_any [] n = omega arith
length-without_any (e ∷ es) n = elim (cases_eq e.0 n) [
  | inl k ↦ omega (arith, ap length (without_here e es n k))
  | inr k ↦ omega (arith, ap length (without_later e es n k), length-without_any es n)
]
