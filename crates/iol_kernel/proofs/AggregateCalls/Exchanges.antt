-- An aggregate that replaces another under its number, and is removed again.
use Rattle.std.proofs.Common.{◌≡◌, ◌≢◌, ℕ, suc, ◌+◌, List, [], ◌∷◌, ap, ◌∙◌, refl, sym, arith, Some, None, inl, inr}
use Rattle.std.proofs.Common.{true}
use Rattle.std.proofs.lemmas.Bool.{cases_eq}
use Rattle.std.proofs.lemmas.Bool.Decides.{nat_tests}
use Rattle.std.proofs.lemmas.List.{append_assoc}
use Rattle.iol_core.specs.NumberedLists.{lookup, without}
use Rattle.iol_core.specs.State.{Domain}
use Rattle.iol_core.proofs.Lookups.{lookup-without}
use Rattle.iol_desc.specs.Tables.{place_in, exchanged, domain_in, with_domain_in, with_aggs_in, agg_in, with_agg_in}
use Rattle.iol_desc.specs.Tables.{without_agg_in, with_next}
use Rattle.iol_hold.specs.declared.slices.Slice.{Slice}
use Rattle.iol_kernel.specs.AggregateCalls.{with_two, with_one}
use Rattle.iol_kernel.proofs.State.Rows.{domain_in-with_same, with_domain_in-twice, with_domain_in-same}
use Rattle.iol_kernel.proofs.State.Uses.{Domains}

-- Of one domain's entries.

exchanged-first : {A : Type 0} (e : ℕ × A) (es : List (ℕ × A)) (n : ℕ) (x : A) → e.0 ≡ n
    → exchanged (e ∷ es) n x ≡ (n, x) ∷ es
exchanged-first e es n x k = grind (arith, nat_tests, k)

exchanged-later : {A : Type 0} (e : ℕ × A) (es : List (ℕ × A)) (n : ℕ) (x : A) → e.0 ≢ n
    → exchanged (e ∷ es) n x ≡ e ∷ exchanged es n x
exchanged-later e es n x k = let p : place_in (e ∷ es) n ≡ suc (place_in es n) = grind (arith, nat_tests, k) in
    rw p refl

pub lookup-exchanged : {A : Type 0} (es : List (ℕ × A)) (n : ℕ) (x : A) → lookup es n ≢ None
    → lookup (exchanged es n x) n ≡ Some x
lookup-exchanged [] n x there = absurd (there refl)
lookup-exchanged {A} (e ∷ es) n x there = elim (cases_eq e.0 n) [
  | inl k ↦ ap (λ (l : List (ℕ × A)). lookup l n) (exchanged-first e es n x k) ∙ grind (arith, nat_tests)
  | inr k ↦ (let r = lookup-exchanged es n x (λ none. there (grind (arith, nat_tests, k, none))) in
      ap (λ (l : List (ℕ × A)). lookup l n) (exchanged-later e es n x k) ∙ grind (arith, nat_tests, k, r))
]

pub lookup-exchanged_other : {A : Type 0} (es : List (ℕ × A)) (m n : ℕ) (x : A) → m ≢ n
    → lookup (exchanged es m x) n ≡ lookup es n
lookup-exchanged_other [] m n x differ = refl
lookup-exchanged_other {A} (e ∷ es) m n x differ = elim (cases_eq e.0 m) [
  | inl k ↦ ap (λ (l : List (ℕ × A)). lookup l n) (exchanged-first e es m x k) ∙ grind (arith, nat_tests, k, differ)
  | inr k ↦ (let r = lookup-exchanged_other es m n x differ in
      ap (λ (l : List (ℕ × A)). lookup l n) (exchanged-later e es m x k)
      ∙ elim (cases_eq e.0 n) [ inl l ↦ grind (arith, nat_tests, l) | inr l ↦ grind (arith, nat_tests, l, r) ])
]

pub without-exchanged : {A : Type 0} (es : List (ℕ × A)) (n : ℕ) (x : A) → without (exchanged es n x) n ≡ without es n
without-exchanged [] n x = refl
without-exchanged {A} (e ∷ es) n x = elim (cases_eq e.0 n) [
  | inl k ↦ ap (λ (l : List (ℕ × A)). without l n) (exchanged-first e es n x k) ∙ grind (arith, nat_tests, k)
  | inr k ↦ (let r = without-exchanged es n x in
      ap (λ (l : List (ℕ × A)). without l n) (exchanged-later e es n x k) ∙ grind (arith, nat_tests, k, r))
]

-- a second exchange restores the first aggregate
pub exchanged-back : {A : Type 0} (es : List (ℕ × A)) (n : ℕ) (x y : A) → Some y ≡ lookup es n
    → exchanged (exchanged es n x) n y ≡ es
exchanged-back [] n x y is = absurd cc
exchanged-back {A} (e ∷ es) n x y is = elim (cases_eq e.0 n) [
  | inl k ↦ (let same : Some y ≡ Some e.1 = is ∙ grind (arith, nat_tests, k) in
      ap (λ (l : List (ℕ × A)). exchanged l n y) (exchanged-first e es n x k) ∙ exchanged-first (n, x) es n y refl
      ∙ entry e y (sym k) (some_is y e.1 same))
  | inr k ↦ (let r = exchanged-back es n x y (is ∙ grind (arith, nat_tests, k)) in
      ap (λ (l : List (ℕ × A)). exchanged l n y) (exchanged-later e es n x k)
      ∙ exchanged-later e (exchanged es n x) n y k ∙ ap (λ (l : List (ℕ × A)). e ∷ l) r)
]
  where
    some_is : (x y : A) → Some x ≡ Some y → x ≡ y
    some_is x y e = cc

    entry : (e : ℕ × A) (y : A) → n ≡ e.0 → y ≡ e.1 → ◌≡◌ {A = List (ℕ × A)} ((n, y) ∷ es) (e ∷ es)
    entry e y k l = λ i. (k i, l i) ∷ es

-- two entries are removed in either order
pub without-twice : {A : Type 0} (es : List (ℕ × A)) (m n : ℕ) → without (without es m) n ≡ without (without es n) m
without-twice [] m n = refl
without-twice (e ∷ es) m n = let r = without-twice es m n in elim (cases_eq e.0 m) [
  | inl k ↦ elim (cases_eq e.0 n) [ inl l ↦ grind (arith, nat_tests, k, l) | inr l ↦ grind (arith, nat_tests, k, l) ]
  | inr k ↦ elim (cases_eq e.0 n) [ inl l ↦ grind (arith, nat_tests, k, l) | inr l ↦ grind (arith, nat_tests, k, l, r) ]
]

-- In a table: a domain that changed changes again.
pub changed_again : (F : Domain (List Slice) → Domain (List Slice)) (ds ms rs : Domains) (d : ℕ)
    (x : Domain (List Slice)) → (domain_in ds d).live ≡ true → ms ≡ with_domain_in ds d x
    → rs ≡ with_domain_in ms d (F (domain_in ms d)) → rs ≡ with_domain_in ds d (F x)
changed_again F ds ms rs d x live is then =
    then
    ∙ ap (λ (ys : Domains). with_domain_in ys d (F (domain_in ys d))) is
    ∙ with_domain_in-twice ds d x (F (domain_in (with_domain_in ds d x) d))
    ∙ ap (λ (y : Domain (List Slice)). with_domain_in ds d (F y)) (domain_in-with_same ds d x live)

-- An aggregate is replaced under its number; then the new one is removed, or the old one is put back.

abbrev pub with_aggs : Domain (List Slice) → List (ℕ × List Slice) → Domain (List Slice)
with_aggs x es = record x { aggs = es }

pub taken_out : (ds ms rs : Domains) (d a : ℕ) (z : List Slice) → (domain_in ds d).live ≡ true
    → ms ≡ with_aggs_in ds d (exchanged (domain_in ds d).aggs a z) → rs ≡ without_agg_in ms d a
    → rs ≡ without_agg_in ds d a
taken_out ds ms rs d a z live is then =
    let x = domain_in ds d in
    changed_again (λ y. with_aggs y (without y.aggs a)) ds ms rs d (with_aggs x (exchanged x.aggs a z)) live is then
    ∙ ap (λ (es : List (ℕ × List Slice)). with_aggs_in ds d es) (without-exchanged x.aggs a z)

pub put_back : (ds ms rs : Domains) (d a : ℕ) (z xs : List Slice) → (domain_in ds d).live ≡ true
    → Some xs ≡ agg_in ds d a → ms ≡ with_aggs_in ds d (exchanged (domain_in ds d).aggs a z)
    → rs ≡ with_aggs_in ms d (exchanged (domain_in ms d).aggs a xs) → rs ≡ ds
put_back ds ms rs d a z xs live found is then =
    let x = domain_in ds d in
    changed_again (λ y. with_aggs y (exchanged y.aggs a xs)) ds ms rs d (with_aggs x (exchanged x.aggs a z)) live
    is then
    ∙ ap (λ (es : List (ℕ × List Slice)). with_aggs_in ds d es) (exchanged-back x.aggs a z xs found)
    ∙ with_domain_in-same ds d

-- Two aggregates in place of one.

two_numbered : (x : Domain (List Slice)) (a : ℕ) (first second : List Slice)
    → with_next (with_next (with_aggs x (without x.aggs a)) first) second ≡ with_two x a first second
two_numbered x a first second =
    ap (λ (es : List (ℕ × List Slice)). record x { aggs = es; next_agg = x.next_agg + 1 + 1 })
    (append_assoc (without x.aggs a) ((x.next_agg, first) ∷ []) ((x.next_agg + 1, second) ∷ []))
    ∙ ap (λ n. record (with_two x a first second) { next_agg = n }) (two x.next_agg)
  where
    two : (n : ℕ) → n + 1 + 1 ≡ n + 2
    two n = omega arith

pub split_table : (ds rs fs ss : Domains) (d a : ℕ) (first second : List Slice) → (domain_in ds d).live ≡ true
    → rs ≡ without_agg_in ds d a → fs ≡ with_agg_in rs d first → ss ≡ with_agg_in fs d second
    → ss ≡ with_domain_in ds d (with_two (domain_in ds d) a first second)
split_table ds rs fs ss d a first second live rest one two =
    let x = domain_in ds d in
    let e = changed_again (λ y. with_next y first) ds rs fs d (with_aggs x (without x.aggs a)) live rest one in
    changed_again (λ y. with_next y second) ds fs ss d (with_next (with_aggs x (without x.aggs a)) first) live e two
    ∙ ap (λ (y : Domain (List Slice)). with_domain_in ds d y) (two_numbered x a first second)

-- One aggregate in place of two.

-- the aggregates under other numbers are unchanged
pub other_found : (ds ms : Domains) (d a b : ℕ) (z : List Slice) → (domain_in ds d).live ≡ true → a ≢ b
    → ms ≡ with_aggs_in ds d (exchanged (domain_in ds d).aggs a z) → agg_in ms d b ≡ agg_in ds d b
other_found ds ms d a b z live differ is =
    ap (λ (ys : Domains). agg_in ys d b) is
    ∙ ap (λ (y : Domain (List Slice)). lookup y.aggs b)
    (domain_in-with_same ds d (with_aggs (domain_in ds d) (exchanged (domain_in ds d).aggs a z)) live)
    ∙ lookup-exchanged_other (domain_in ds d).aggs a b z differ

pub join_table : (ds fs ss rs ts js : Domains) (d a b : ℕ) (y z whole : List Slice) → (domain_in ds d).live ≡ true
    → fs ≡ with_aggs_in ds d (exchanged (domain_in ds d).aggs a y)
    → ss ≡ with_aggs_in fs d (exchanged (domain_in fs d).aggs b z)
    → rs ≡ without_agg_in ss d a → ts ≡ without_agg_in rs d b → js ≡ with_agg_in ts d whole
    → js ≡ with_domain_in ds d (with_one (domain_in ds d) a b whole)
join_table ds fs ss rs ts js d a b y z whole live one two three four five =
    let x = domain_in ds d in
    let once = exchanged x.aggs a y in
    let twice = exchanged once b z in
    let e = changed_again (λ x. with_aggs x (exchanged x.aggs b z)) ds fs ss d (with_aggs x once) live one two in
    let f = changed_again (λ x. with_aggs x (without x.aggs a)) ds ss rs d (with_aggs x twice) live e three in
    let g = changed_again (λ x. with_aggs x (without x.aggs b)) ds rs ts d (with_aggs x (without twice a)) live f
    four in
    changed_again (λ x. with_next x whole) ds ts js d (with_aggs x (without (without twice a) b)) live g five
    ∙ ap (λ (es : List (ℕ × List Slice)). with_domain_in ds d (with_next (with_aggs x es) whole))
    (without-twice twice a b ∙ ap (λ (es : List (ℕ × List Slice)). without es a) (without-exchanged once b z)
    ∙ without-twice once b a ∙ ap (λ (es : List (ℕ × List Slice)). without es b) (without-exchanged x.aggs a y))

still_live : (ds ms : Domains) (d : ℕ) (es : List (ℕ × List Slice)) → (domain_in ds d).live ≡ true
    → ms ≡ with_aggs_in ds d es → (domain_in ms d).live ≡ true
still_live ds ms d es live is = ap (λ (ys : Domains). (domain_in ys d).live) is
    ∙ ap (λ (y : Domain (List Slice)). y.live) (domain_in-with_same ds d (with_aggs (domain_in ds d) es) live) ∙ live

-- both are put back, the second first
pub both_back : (ds fs ss bs rs : Domains) (d a b : ℕ) (y z xs ys : List Slice) → (domain_in ds d).live ≡ true
    → Some xs ≡ agg_in ds d a → Some ys ≡ agg_in fs d b → fs ≡ with_aggs_in ds d (exchanged (domain_in ds d).aggs a y)
    → ss ≡ with_aggs_in fs d (exchanged (domain_in fs d).aggs b z)
    → bs ≡ with_aggs_in ss d (exchanged (domain_in ss d).aggs b ys)
    → rs ≡ with_aggs_in bs d (exchanged (domain_in bs d).aggs a xs) → rs ≡ ds
both_back ds fs ss bs rs d a b y z xs ys live first second one two three four =
    let mid : bs ≡ fs = put_back fs ss bs d b z ys (still_live ds fs d (exchanged (domain_in ds d).aggs a y) live one)
    second two three in
    put_back ds fs rs d a y xs live first one (four
    ∙ ap (λ (vs : Domains). with_aggs_in vs d (exchanged (domain_in vs d).aggs a xs)) mid)

pub ruleset table_rules = (domain_in-with_same, lookup-exchanged, lookup-exchanged_other, lookup-without)
