-- Lists with holes: entries that are found, taken, added and exchanged.
use Rattle.std.proofs.Common.{◌≡◌, ◌≢◌, ℕ, zero, suc, ◌+◌, ◌-◌, ◌<◌, ◌≤◌, List, [], ◌∷◌, ◌++◌, length, get_or, Option}
use Rattle.std.proofs.Common.{Some, None, inl, inr, arith, refl, sym, subst, true, ap, ◌∙◌, filter, length-append}
use Rattle.std.proofs.Common.{length-set}
use Rattle.std.specs.Prelude.{slice_set, is_some}
use Rattle.std.proofs.lemmas.Bool.{cases_eq}
use Rattle.std.proofs.lemmas.Bool.Decides.{nat_tests}
use Rattle.iol_core.specs.NumberedLists.{lookup, without, changed}
use Rattle.iol_desc.specs.Tables.{place_in, exchanged}
use Rattle.iol_desc.specs.EntryLists.{there, DropsHole, Rises, IsRising, IsListed}
use Rattle.iol_desc.proofs.RisingNumbers.{rises-lower, rises-set, rises-push}
use Rattle.iol_desc.proofs.LiveCounts.{length-without}

-- the value at an index, or none past the end
abbrev pub held_at : {A : Type 0} → List (ℕ × Option A) → (i : ℕ) → Option A
held_at {A} es i = let none : Option A = None in (get_or es i (0, none)).1

absent : {A : Type 0} (es : List (ℕ × Option A)) (from to n : ℕ) → Rises from es to → n < from
    → lookup (there es) n ≡ None
absent [] from to n r lt = refl
absent ((m, None) ∷ es) from to n r lt = absent es (m + 1) to n r.1 (omega (arith, r.0))
absent ((m, Some x) ∷ es) from to n r lt =
    let rest = absent es (m + 1) to n r.1 (omega (arith, r.0)) in
    let above : n < m = omega (arith, r.0) in
    grind (arith, nat_tests, rest, above)

pub lookup_there : {A : Type 0} (es : List (ℕ × Option A)) (from to n : ℕ) → Rises from es to
    → lookup (there es) n ≡ held_at es (place_in es n)
lookup_there [] from to n r = refl
lookup_there ((m, None) ∷ es) from to n r = elim (cases_eq m n) [
  | inl k ↦ (let none = absent es (m + 1) to n r.1 (omega (arith, k)) in grind (arith, nat_tests, k, none))
  | inr k ↦ (let rest = lookup_there es (m + 1) to n r.1 in grind (arith, nat_tests, k, rest))
]
lookup_there ((m, Some x) ∷ es) from to n r = elim (cases_eq m n) [
  | inl k ↦ grind (arith, nat_tests, k)
  | inr k ↦ (let rest = lookup_there es (m + 1) to n r.1 in grind (arith, nat_tests, k, rest))
]

without_absent : {A : Type 0} (es : List (ℕ × A)) (n : ℕ) → lookup es n ≡ None → without es n ≡ es
without_absent [] n none = refl
without_absent {A} (e ∷ es) n none = elim (cases_eq e.0 n) [
  | inl k ↦ absurd (let some : lookup (e ∷ es) n ≡ Some e.1 = grind (arith, nat_tests, k) in
      (let bad : Some e.1 ≡ None = sym some ∙ none in cc bad))
  | inr k ↦ (let rest = without_absent es n (grind (arith, nat_tests, k, none)) in
      let w : without (e ∷ es) n ≡ e ∷ without es n = grind (arith, nat_tests, k) in
      w ∙ ap (λ (es : List (ℕ × A)). e ∷ es) rest)
]

-- The entry of a number is taken or exchanged.

pub there-taken : {A : Type 0} (es : List (ℕ × Option A)) (from to n : ℕ) → Rises from es to
    → there (slice_set es (place_in es n) (n, None)) ≡ without (there es) n
there-taken [] from to n r = refl
there-taken ((m, None) ∷ es) from to n r = elim (cases_eq m n) [
  | inl k ↦ (let same = without_absent (there es) n (absent es (m + 1) to n r.1 (omega (arith, k))) in
      grind (arith, nat_tests, k, same))
  | inr k ↦ (let rest = there-taken es (m + 1) to n r.1 in
      let p : place_in ((m, None) ∷ es) n ≡ suc (place_in es n) = grind (arith, nat_tests, k) in
      rw p rest)
]
there-taken {A} ((m, Some x) ∷ es) from to n r = elim (cases_eq m n) [
  | inl k ↦ grind (arith, nat_tests, k)
  | inr k ↦ (let rest = there-taken es (m + 1) to n r.1 in
      let p : place_in ((m, Some x) ∷ es) n ≡ suc (place_in es n) = grind (arith, nat_tests, k) in
      let w : without ((m, x) ∷ there es) n ≡ (m, x) ∷ without (there es) n = grind (arith, nat_tests, k) in
      rw (p, w) (ap (λ (es : List (ℕ × A)). (m, x) ∷ es) rest))
]

pub there-exchanged : {A : Type 0} (es : List (ℕ × Option A)) (from to n : ℕ) (y : A) → Rises from es to
    → lookup (there es) n ≢ None → there (slice_set es (place_in es n) (n, Some y)) ≡ exchanged (there es) n y
there-exchanged [] from to n y r found = absurd (found refl)
there-exchanged ((m, None) ∷ es) from to n y r found = elim (cases_eq m n) [
  | inl k ↦ absurd (found (absent es (m + 1) to n r.1 (omega (arith, k))))
  | inr k ↦ (let rest = there-exchanged es (m + 1) to n y r.1 found in
      let p : place_in ((m, None) ∷ es) n ≡ suc (place_in es n) = grind (arith, nat_tests, k) in
      rw p rest)
]
there-exchanged {A} ((m, Some x) ∷ es) from to n y r found = elim (cases_eq m n) [
  | inl k ↦ grind (arith, nat_tests, k)
  | inr k ↦ (let rest = there-exchanged es (m + 1) to n y r.1 (λ none. found (grind (arith, nat_tests, k, none))) in
      let p : place_in ((m, Some x) ∷ es) n ≡ suc (place_in es n) = grind (arith, nat_tests, k) in
      let q : place_in ((m, x) ∷ there es) n ≡ suc (place_in (there es) n) = grind (arith, nat_tests, k) in
      rw (p, q) (ap (λ (es : List (ℕ × A)). (m, x) ∷ es) rest))
]

pub place_there : {A : Type 0} (es : List (ℕ × Option A)) (from to n : ℕ) → Rises from es to
    → lookup (there es) n ≢ None → place_in es n < length es
place_there [] from to n r found = absurd (found refl)
place_there ((m, None) ∷ es) from to n r found = elim (cases_eq m n) [
  | inl k ↦ grind (arith, nat_tests, k)
  | inr k ↦ (let rest = place_there es (m + 1) to n r.1 found in grind (arith, nat_tests, k, rest))
]
place_there ((m, Some x) ∷ es) from to n r found = elim (cases_eq m n) [
  | inl k ↦ grind (arith, nat_tests, k)
  | inr k ↦ (let rest = place_there es (m + 1) to n r.1 (λ none. found (grind (arith, nat_tests, k, none))) in
      grind (arith, nat_tests, k, rest))
]

-- The value of a number is set.

changed-absent : {A : Type 0} (es : List (ℕ × A)) (from to n : ℕ) (y : A) → Rises from es to → n < from
    → changed es n y ≡ es
changed-absent [] from to n y r lt = refl
changed-absent {A} (e ∷ es) from to n y r lt =
    let above : n < e.0 = omega (arith, r.0) in
    let head : changed (e ∷ es) n y ≡ e ∷ changed es n y = grind (arith, nat_tests, above) in
    head ∙ ap (λ (es : List (ℕ × A)). e ∷ es) (changed-absent es (e.0 + 1) to n y r.1 (omega (arith, r.0)))

pub exchanged-changed : {A : Type 0} (es : List (ℕ × A)) (from to n : ℕ) (y : A) → Rises from es to
    → exchanged es n y ≡ changed es n y
exchanged-changed [] from to n y r = refl
exchanged-changed {A} (e ∷ es) from to n y r = elim (cases_eq e.0 n) [
  | inl k ↦ (let rest = changed-absent es (e.0 + 1) to n y r.1 (omega (arith, k)) in
      let head : changed (e ∷ es) n y ≡ (n, y) ∷ changed es n y = grind (arith, nat_tests, k) in
      let first : exchanged (e ∷ es) n y ≡ (n, y) ∷ es = grind (arith, nat_tests, k) in
      first ∙ sym (head ∙ ap (λ (es : List (ℕ × A)). (n, y) ∷ es) rest))
  | inr k ↦ (let rest = exchanged-changed es (e.0 + 1) to n y r.1 in
      let head : changed (e ∷ es) n y ≡ e ∷ changed es n y = grind (arith, nat_tests, k) in
      let p : place_in (e ∷ es) n ≡ suc (place_in es n) = grind (arith, nat_tests, k) in
      let first : exchanged (e ∷ es) n y ≡ e ∷ exchanged es n y = rw p refl in
      first ∙ ap (λ (es : List (ℕ × A)). e ∷ es) rest ∙ sym head)
]

-- An entry is added at the end, and holes are removed.

pub there-push : {A : Type 0} (es : List (ℕ × Option A)) (n : ℕ) (x : A)
    → there (es ++ (n, Some x) ∷ []) ≡ there es ++ (n, x) ∷ []
there-push [] n x = refl
there-push ((m, None) ∷ es) n x = there-push es n x
there-push {A} ((m, Some y) ∷ es) n x = ap (λ (es : List (ℕ × A)). (m, y) ∷ es) (there-push es n x)

pub there-hole : {A : Type 0} (es : List (ℕ × Option A)) (n : ℕ) → there (es ++ (n, None) ∷ []) ≡ there es
there-hole [] n = refl
there-hole ((m, None) ∷ es) n = there-hole es n
there-hole {A} ((m, Some y) ∷ es) n = ap (λ (es : List (ℕ × A)). (m, y) ∷ es) (there-hole es n)

-- the entries that are not holes
abbrev pub held : {A : Type 0} → List (ℕ × Option A) → List (ℕ × Option A)
held es = filter (λ e. is_some e.1) es

pub there-held : {A : Type 0} (es : List (ℕ × Option A)) → there (held es) ≡ there es
there-held [] = refl
there-held ((m, None) ∷ es) = there-held es
there-held {A} ((m, Some y) ∷ es) = ap (λ (es : List (ℕ × A)). (m, y) ∷ es) (there-held es)

pub length-held : {A : Type 0} (es : List (ℕ × Option A)) → length (held es) ≡ length (there es)
length-held [] = refl
length-held ((m, None) ∷ es) = length-held es
length-held ((m, Some y) ∷ es) = ap suc (length-held es)

rises-held : {A : Type 0} (es : List (ℕ × Option A)) (from to : ℕ) → Rises from es to → Rises from (held es) to
rises-held [] from to r = r
rises-held ((m, None) ∷ es) from to r =
    rises-lower (held es) (m + 1) from to (rises-held es (m + 1) to r.1) (omega (arith, r.0))
rises-held ((m, Some y) ∷ es) from to r = (r.0, rises-held es (m + 1) to r.1)

number_at : {X : Type 0} (es : List (ℕ × X)) (n : ℕ) (d : ℕ × X) → place_in es n < length es
    → n ≡ (get_or es (place_in es n) d).0
number_at [] n d lt = absurd (omega arith)
number_at (e ∷ es) n d lt = elim (cases_eq e.0 n) [
  | inl k ↦ grind (arith, nat_tests, k)
  | inr k ↦ (let p : place_in (e ∷ es) n ≡ suc (place_in es n) = grind (arith, nat_tests, k) in
      let rest = number_at es n d (omega (arith, p)) in rw p rest)
]

rises-at : {A : Type 0} (es : List (ℕ × Option A)) (to n : ℕ) (h : Option A) → Rises 0 es to
    → lookup (there es) n ≢ None → Rises 0 (slice_set es (place_in es n) (n, h)) to
rises-at {A} es to n h r found =
    let none : Option A = None in
    rises-set es 0 to (place_in es n) (0, none) (n, h) r (number_at es n (0, none) (place_there es 0 to n r found))

-- A list with holes after each of these changes.

pub listed-taken : {A : Type 0} (holes next n : ℕ) (es : List (ℕ × Option A)) → IsListed holes next es
    → lookup (there es) n ≢ None → IsListed (holes + 1) next (slice_set es (place_in es n) (n, None))
listed-taken {A} holes next n es listed found =
    let less : length (there (slice_set es (place_in es n) (n, None))) + 1 ≡ length (there es) =
    ap (λ (es : List (ℕ × A)). length es + 1) (there-taken es 0 next n listed.rises)
    ∙ length-without (there es) n found in
    record {
      rises = rises-at es next n None listed.rises found;
      count = omega (arith, less, listed.count, length-set es (place_in es n) (n, None));
    }

pub listed-exchanged : {A : Type 0} (holes next n : ℕ) (es : List (ℕ × Option A)) (y : A) → IsListed holes next es
    → lookup (there es) n ≢ None → IsListed holes next (slice_set es (place_in es n) (n, Some y))
listed-exchanged {A} holes next n es y listed found =
    let same : length (there (slice_set es (place_in es n) (n, Some y))) ≡ length (there es) =
    ap (λ (es : List (ℕ × A)). length es) (there-exchanged es 0 next n y listed.rises found)
    ∙ length-set (there es) (place_in (there es) n) (n, y) in
    record {
      rises = rises-at es next n (Some y) listed.rises found;
      count = omega (arith, same, listed.count, length-set es (place_in es n) (n, Some y));
    }

pub listed-push : {A : Type 0} (holes next : ℕ) (es : List (ℕ × Option A)) (x : A) → IsListed holes next es
    → IsListed holes (next + 1) (es ++ (next, Some x) ∷ [])
listed-push {A} holes next es x listed =
    let more : length (there (es ++ (next, Some x) ∷ [])) ≡ length (there es) + 1 =
    ap (λ (es : List (ℕ × A)). length es) (there-push es next x) ∙ length-append (there es) ((next, x) ∷ []) in
    record {
      rises = rises-push es 0 next (Some x) listed.rises;
      count = omega (arith, more, listed.count, length-append es ((next, Some x) ∷ []));
    }

pub listed-held : {A : Type 0} (holes next : ℕ) (es : List (ℕ × Option A)) → IsListed holes next es
    → IsListed 0 next (held es)
listed-held {A} holes next es listed = record {
  rises = rises-held es 0 next listed.rises;
  count = omega (arith, ap (λ (es : List (ℕ × A)). length es) (there-held es), length-held es);
}

rises-le : {X : Type 0} (es : List (ℕ × X)) (from to : ℕ) → Rises from es to → from ≤ to
rises-le [] from to r = r
rises-le (e ∷ es) from to r = omega (arith, r.0, rises-le es (e.0 + 1) to r.1)

rises-front : {X : Type 0} (es fs : List (ℕ × X)) (from to : ℕ) → Rises from (es ++ fs) to → Rises from es to
rises-front [] fs from to r = rises-le fs from to r
rises-front (e ∷ es) fs from to r = (r.0, rises-front es fs (e.0 + 1) to r.1)

length-there : {A : Type 0} (es : List (ℕ × Option A)) → length (there es) ≤ length es
length-there [] = omega arith
length-there ((m, None) ∷ es) = omega (arith, length-there es)
length-there ((m, Some x) ∷ es) = omega (arith, length-there es)

-- the last entry was a hole, and was removed
pub listed_without_hole : {A : Type 0} (holes next : ℕ) (old new : List (ℕ × Option A)) → IsListed holes next old
    → DropsHole true old new → (1 ≤ holes) × IsListed (holes - 1) next new × (there new ≡ there old)
listed_without_hole {A} holes next old new listed drops =
    let none : Option A = None in
    let n = drops.0 in
    let same : there old ≡ there new = ap (λ (es : List (ℕ × Option A)). there es) drops.1 ∙ there-hole new n in
    let long : length old ≡ length new + 1 = ap (λ (es : List (ℕ × Option A)). length es) drops.1
    ∙ length-append new ((n, none) ∷ []) in
    let few : length (there old) ≡ length (there new) = ap (λ (es : List (ℕ × A)). length es) same in (
      omega (arith, listed.count, long, few, length-there new),
      record {
        rises =
            rises-front new ((n, none) ∷ []) 0 next
            (subst (λ (es : List (ℕ × Option A)). Rises 0 es next) drops.1 listed.rises);
        count = omega (arith, listed.count, long, few, length-there new);
      },
      sym same,
    )

any-default : {X : Type 0} (es : List X) (i : ℕ) (a b : X) → i < length es → get_or es i a ≡ get_or es i b
any-default [] i a b lt = absurd (omega arith)
any-default (e ∷ es) zero a b lt = refl
any-default (e ∷ es) (suc i) a b lt = any-default es i a b (omega arith)

pub lookup_entry : {A : Type 0} (holes next n i : ℕ) (es : List (ℕ × Option A)) (e : ℕ × Option A)
    → IsListed holes next es → lookup (there es) n ≢ None → i ≡ place_in es n → e ≡ get_or es i e
    → lookup (there es) n ≡ e.1
lookup_entry {A} holes next n i es e listed found at is =
    let none : Option A = None in
    lookup_there es 0 next n listed.rises
    ∙ ap (λ (x : ℕ × Option A). x.1)
    (any-default es (place_in es n) (0, none) e (place_there es 0 next n listed.rises found)
    ∙ ap (λ (k : ℕ). get_or es k e) (sym at) ∙ sym is)

-- The numbers of the entries that are not holes rise, too.

rises-there : {A : Type 0} (es : List (ℕ × Option A)) (from to : ℕ) → Rises from es to → Rises from (there es) to
rises-there [] from to r = r
rises-there ((m, None) ∷ es) from to r =
    rises-lower (there es) (m + 1) from to (rises-there es (m + 1) to r.1) (omega (arith, r.0))
rises-there ((m, Some y) ∷ es) from to r = (r.0, rises-there es (m + 1) to r.1)

pub there_rises : {A : Type 0} (holes next : ℕ) (es : List (ℕ × Option A)) → IsListed holes next es
    → Rises 0 (there es) next
there_rises holes next es listed = rises-there es 0 next listed.rises

-- the entry of a number, after a borrow of its value
pub lent_entry : {A : Type 0} (holes next n i : ℕ) (es : List (ℕ × Option A)) (e : ℕ × Option A) (w : A)
    → IsListed holes next es → lookup (there es) n ≢ None → i ≡ place_in es n → e ≡ get_or es i e
    → IsListed holes next (slice_set es i (e.0, Some w))
    × (there (slice_set es i (e.0, Some w)) ≡ changed (there es) n w)
lent_entry {A} holes next n i es e w listed found at is =
    let number : n ≡ e.0 = number_at es n e (place_there es 0 next n listed.rises found)
    ∙ ap (λ (k : ℕ). (get_or es k e).0) (sym at) ∙ ap (λ (x : ℕ × Option A). x.0) (sym is) in
    rw (at, sym number) (
      listed-exchanged holes next n es w listed found,
      there-exchanged es 0 next n w listed.rises found
          ∙ exchanged-changed (there es) 0 next n w (rises-there es 0 next listed.rises),
    )

-- Likewise for a list whose numbers rise.

pub lookup_held : {A : Type 0} (es : List (ℕ × Option A)) (n : ℕ) → IsRising es
    → lookup (there es) n ≡ held_at es (place_in es n)
lookup_held es n rising = lookup_there es 0 rising.reported.0 n rising.reported.1

pub place_held : {A : Type 0} (es : List (ℕ × Option A)) (n : ℕ) → IsRising es → lookup (there es) n ≢ None
    → place_in es n < length es
place_held es n rising found = place_there es 0 rising.reported.0 n rising.reported.1 found

pub taken_held : {A : Type 0} (holes next n : ℕ) (es : List (ℕ × Option A)) → IsListed holes next es
    → there (slice_set es (place_in es n) (n, None)) ≡ without (there es) n
taken_held holes next n es listed = there-taken es 0 next n listed.rises

pub exchanged_held : {A : Type 0} (holes next n : ℕ) (es : List (ℕ × Option A)) (y : A) → IsListed holes next es
    → lookup (there es) n ≢ None → there (slice_set es (place_in es n) (n, Some y)) ≡ exchanged (there es) n y
exchanged_held holes next n es y listed found = there-exchanged es 0 next n y listed.rises found

pub rising_listed : {A : Type 0} (holes next : ℕ) (es : List (ℕ × Option A)) → IsListed holes next es → IsRising es
rising_listed holes next es listed = record { reported = (next, listed.rises) }

pub ruleset found_rules = (lookup_held, place_held)

pub ruleset end_rules = (there-push, there-hole)

pub ruleset method_rules = (
  rising_listed,
  listed-taken,
  listed-exchanged,
  listed-push,
  listed-held,
  taken_held,
  exchanged_held,
  there-push,
  there-held,
)

pub ruleset lent_rules = (rising_listed, lookup_held, place_held)

pub ruleset hole_rules = (listed_without_hole)

pub ruleset pop_rules = (length-append)
