-- Files, extents and entries by number and place, and sums over them.
use Rattle.std.proofs.Common.{inl, inr, ◌≡◌, ℕ, ◌+◌, ◌-◌, ◌<◌, ◌≤◌, ◌==◌, Bool, true, false, cond, List, [], ◌∷◌, ◌++◌}
use Rattle.std.proofs.Common.{length, get_or, set, Some, refl, sym, ap, ◌∙◌, arith, subst}
use Rattle.std.specs.List.{AllByRecursion}
use Rattle.std.specs.Prelude.{nat_lt, flat_map, sum_by, map}
use Rattle.std.proofs.lemmas.Bool.{cases_eq, cases_lt}
use Rattle.std.proofs.lemmas.Bool.Decides.{nat_tests}
use Rattle.std.proofs.lemmas.List.{get_or_default}
use Rattle.std.proofs.lemmas.List.Sums.{sum_by-cons, sum_by-set, get_or-le-sum_by}
use Rattle.std.proofs.lemmas.List.Concat.{flat_map-cons}
use Rattle.std.proofs.lemmas.Grind.{common_steps}
use Rattle.iol_core.specs.NumberedLists.{is_numbered, numbered_or, with_numbered}
use Rattle.iol_core.specs.declared.numbers.BufId.{BufId}
use Rattle.iol_hold.specs.Moves.{tally}
use Rattle.iol_hold.specs.Texts.{bufs_of}
use Rattle.iol_hold.specs.declared.slices.Slice.{Slice}
use Rattle.iol_hold.proofs.Counts.{tally-append, tally_none, bufs-append}
use Rattle.iol_extent.specs.Extents.{Extent, begins_at, put_in, without_at}
use Rattle.iol_evict.specs.Order as ranking
use Rattle.iol_evict.specs.declared.entry.Entry.{Entry}
use Rattle.iol_cache.specs.declared.files.CachedFile.{CachedFile}
use Rattle.iol_cache.specs.Marks.{at_page}
use Rattle.iol_cache.specs.CacheState.{file_in, with_file, no_file, order_in, with_order, no_order}
use Rattle.iol_cache.proofs.Evictions.Marks.{at_page-append, at_page-none}

-- By number.

pub numbered_bounds : {A : Type 0} (xs : List A) (n : ℕ) → is_numbered xs n ≡ true → (0 < n) × (n ≤ length xs)
numbered_bounds xs n h = (grind (arith, nat_tests, h), grind (arith, nat_tests, h))

pub numbered_yes : {A : Type 0} (xs : List A) (n : ℕ) → 0 < n → n ≤ length xs → is_numbered xs n ≡ true
numbered_yes xs n h k = grind (arith, nat_tests, h, k)

pub numbered_same : {A : Type 0} (xs : List A) (n : ℕ) (x z : A) → 0 < n → n ≤ length xs
    → numbered_or (with_numbered xs n x) n z ≡ x
numbered_same xs n x z h k = let w : n - 1 < length xs = omega arith in grind (arith, nat_tests, common_steps, h, w)

pub numbered_other : {A : Type 0} (xs : List A) (n m : ℕ) (x z : A) → (m ≡ n → ⊥)
    → numbered_or (with_numbered xs n x) m z ≡ numbered_or xs m z
numbered_other xs n m x z ne = elim (cases_eq n 0) [
  | inl k ↦ grind (arith, nat_tests, common_steps, k)
  | inr k ↦ elim (cases_eq m 0) [
    | inl l ↦ grind (arith, nat_tests, common_steps, l)
    | inr l ↦ (let apart : n - 1 ≡ m - 1 → ⊥ = λ e. ne (omega (arith, e, k, l)) in
        grind (arith, nat_tests, common_steps, k, l, apart))
  ]
]

numbered_at : {A : Type 0} (xs : List A) (n : ℕ) (y z : A) → 0 < n → n ≤ length xs → y ≡ get_or xs (n - 1) y
    → y ≡ numbered_or xs n z
numbered_at xs n y z h k is = let w : n - 1 < length xs = omega arith in let nz : n ≡ 0 → ⊥ =
    λ e. absurd (omega (arith, e, h)) in
    is ∙ get_or_default xs (n - 1) y z w ∙ grind (arith, nat_tests, nz)

set_numbered : {A : Type 0} (xs : List A) (n : ℕ) (x : A) → 0 < n → set xs (n - 1) x ≡ with_numbered xs n x
set_numbered xs n x h = let nz : n ≡ 0 → ⊥ = λ e. absurd (omega (arith, e, h)) in grind (arith, nat_tests, nz)

pub file_same : (fs : List CachedFile) (f : ℕ) (x : CachedFile) → 0 < f → f ≤ length fs
    → file_in (with_file fs f x) f ≡ x
unfolding file_in with_file
file_same fs f x h k = numbered_same fs f x no_file h k

pub file_other : (fs : List CachedFile) (f g : ℕ) (x : CachedFile) → (g ≡ f → ⊥)
    → file_in (with_file fs f x) g ≡ file_in fs g
unfolding file_in with_file
file_other fs f g x ne = numbered_other fs f g x no_file ne

pub file_at : (fs : List CachedFile) (f : ℕ) (x : CachedFile) → 0 < f → f ≤ length fs → x ≡ get_or fs (f - 1) x
    → x ≡ file_in fs f
unfolding file_in
file_at fs f x h k is = numbered_at fs f x no_file h k is

pub file_at_number : (fs : List CachedFile) (f n : ℕ) (x : CachedFile) → n ≡ f → (0 < f) × (f ≤ length fs)
    → x ≡ get_or fs (n - 1) x → x ≡ file_in fs f
file_at_number fs f n x is bounds at = file_at fs f x bounds.0 bounds.1 (at ∙ ap (λ m. get_or fs (m - 1) x) is)

pub file_set : (fs : List CachedFile) (f : ℕ) (x : CachedFile) → 0 < f → set fs (f - 1) x ≡ with_file fs f x
unfolding with_file
file_set fs f x h = set_numbered fs f x h

pub file_nowhere : (fs : List CachedFile) (f : ℕ) → is_numbered fs f ≡ false → file_in fs f ≡ no_file
unfolding file_in
file_nowhere fs f h = elim (cases_eq f 0) [
  | inl k ↦ grind (arith, nat_tests, k)
  | inr k ↦ (let past : length fs ≤ f - 1 = past_of k in grind (arith, nat_tests, common_steps, k, past))
]
  where
    past_of : (f ≡ 0 → ⊥) → length fs ≤ f - 1
    past_of k = elim (cases_lt (f - 1) (length fs)) [
      | inl l ↦
          absurd (let y : ◌≡◌ {A = Bool} true false = sym (numbered_yes fs f (omega (arith, k)) (omega (arith, l, k)))
          ∙ h in cc)
      | inr l ↦ l
    ]

pub length-with_file : (fs : List CachedFile) (f : ℕ) (x : CachedFile) → length (with_file fs f x) ≡ length fs
unfolding with_file
length-with_file fs f x =
    elim (cases_eq f 0) [
      | inl k ↦ grind (arith, nat_tests, common_steps, k)
      | inr k ↦
          grind (arith, nat_tests, common_steps, k)
    ]

pub order_same : (os : List ranking.Ranking) (p : ℕ) (x : ranking.Ranking) → 0 < p → p ≤ length os
    → order_in (with_order os p x) p ≡ x
unfolding order_in with_order
order_same os p x h k = numbered_same os p x no_order h k

pub order_other : (os : List ranking.Ranking) (p q : ℕ) (x : ranking.Ranking) → (q ≡ p → ⊥)
    → order_in (with_order os p x) q ≡ order_in os q
unfolding order_in with_order
order_other os p q x ne = numbered_other os p q x no_order ne

pub order_at : (os : List ranking.Ranking) (p : ℕ) (x : ranking.Ranking) → 0 < p → p ≤ length os
    → x ≡ get_or os (p - 1) x → x ≡ order_in os p
unfolding order_in
order_at os p x h k is = numbered_at os p x no_order h k is

pub order_at_number : (os : List ranking.Ranking) (p n : ℕ) (x : ranking.Ranking) → n ≡ p → (0 < p) × (p ≤ length os)
    → x ≡ get_or os (n - 1) x → x ≡ order_in os p
order_at_number os p n x is bounds at = order_at os p x bounds.0 bounds.1 (at ∙ ap (λ m. get_or os (m - 1) x) is)

pub order_set : (os : List ranking.Ranking) (p : ℕ) (x : ranking.Ranking) → 0 < p → set os (p - 1) x ≡ with_order os p x
unfolding with_order
order_set os p x h = set_numbered os p x h

pub length-with_order : (os : List ranking.Ranking) (p : ℕ) (x : ranking.Ranking)
    → length (with_order os p x) ≡ length os
unfolding with_order
length-with_order os p x =
    elim (cases_eq p 0) [
      | inl k ↦ grind (arith, nat_tests, common_steps, k)
      | inr k ↦
          grind (arith, nat_tests, common_steps, k)
    ]

pub order_nowhere : (os : List ranking.Ranking) (p : ℕ) → (0 < p → length os < p) → order_in os p ≡ no_order
unfolding order_in
order_nowhere os p h = elim (cases_eq p 0) [
  | inl k ↦ grind (arith, nat_tests, k)
  | inr k ↦ (let past : length os ≤ p - 1 = (let l = h (omega (arith, k)) in omega (arith, l)) in
      grind (arith, nat_tests, common_steps, k, past))
]

-- Sums over parts.

pub record IsAdditive {A : Type 0} (h : List A → ℕ) : Type 0 where
  pub none : h [] ≡ 0
  pub append : (xs ys : List A) → h (xs ++ ys) ≡ h xs + h ys

pub additive_tally : (b : BufId) → IsAdditive (tally b)
additive_tally b = record { none = tally_none b; append = λ xs ys. tally-append b xs ys }

pub additive_page : (p : ℕ) → IsAdditive (at_page p)
additive_page p = record { none = at_page-none p; append = λ xs ys. at_page-append p xs ys }

pub additive_bufs : {h : List BufId → ℕ} → IsAdditive h → IsAdditive (λ (xs : List Slice). h (bufs_of xs))
additive_bufs {h = h} a =
    record { none = a.none; append = λ xs ys. ap h (bufs-append xs ys) ∙ a.append (bufs_of xs) (bufs_of ys) }

pub sum-flat : {A B : Type 0} {h : List B → ℕ} → IsAdditive h → (g : A → List B) (xs : List A)
    → h (flat_map g xs) ≡ sum_by (λ x. h (g x)) xs
sum-flat a g [] = a.none
sum-flat {h = h} a g (x ∷ xs) = ap h (flat_map-cons g x xs) ∙ a.append (g x) (flat_map g xs)
    ∙ ap (λ n. h (g x) + n) (sum-flat a g xs) ∙ sym (sum_by-cons (λ y. h (g y)) x xs)

-- one file has changed
pub sum-with_file : (w : CachedFile → ℕ) (fs : List CachedFile) (f : ℕ) (x : CachedFile) → 0 < f → f ≤ length fs
    → sum_by w (with_file fs f x) + w (file_in fs f) ≡ sum_by w fs + w x
unfolding file_in with_file
sum-with_file w fs f x h k =
    let nz : f ≡ 0 → ⊥ = λ e. absurd (omega (arith, e, h)) in
    let e = sum_by-set w fs (f - 1) x no_file (omega arith) in
    let s = ap (sum_by w) (sym (set_numbered fs f x h)) in
    let y : numbered_or fs f no_file ≡ get_or fs (f - 1) no_file = grind (arith, nat_tests, nz) in
    omega (arith, e, s, ap w y)

pub sum-file_in : (w : CachedFile → ℕ) (fs : List CachedFile) (f : ℕ) → w no_file ≡ 0 → w (file_in fs f) ≤ sum_by w fs
unfolding file_in
sum-file_in w fs f none = elim (cases_eq f 0) [
  | inl k ↦ (let y : numbered_or fs f no_file ≡ no_file = grind (arith, nat_tests, k) in omega (arith, ap w y, none))
  | inr k ↦ (let y : numbered_or fs f no_file ≡ get_or fs (f - 1) no_file = grind (arith, nat_tests, k) in
      elim (cases_lt (f - 1) (length fs)) [
        | inl l ↦ omega (arith, ap w y, get_or-le-sum_by w fs (f - 1) no_file l)
        | inr l ↦ (let z : numbered_or fs f no_file ≡ no_file = y ∙ grind (arith, nat_tests, common_steps, l) in
            omega (arith, ap w z, none))
      ])
]

-- Extents of a file.

pub sum-without_at : (w : Extent → ℕ) (es : List Extent) (at : ℕ) (e : Extent) → begins_at es at ≡ Some e
    → sum_by w es ≡ w e + sum_by w (without_at es at)
sum-without_at w [] at e h = absurd cc
sum-without_at w (x ∷ xs) at e h = here (x.at == at) h (sum-without_at w xs at e) where
  here : (c : Bool) → cond c (Some x) (begins_at xs at) ≡ Some e
      → (begins_at xs at ≡ Some e → sum_by w xs ≡ w e + sum_by w (without_at xs at))
      → sum_by w (x ∷ xs) ≡ w e + sum_by w (cond c xs (x ∷ without_at xs at))
  here true h ih = let same : x ≡ e = cc in sum_by-cons w x xs ∙ ap (λ y. w y + sum_by w xs) same
  here false h ih = omega (arith, sum_by-cons w x xs, sum_by-cons w x (without_at xs at), ih h)

pub sum-put_in : (w : Extent → ℕ) (es : List Extent) (e : Extent) → sum_by w (put_in es e) ≡ w e + sum_by w es
sum-put_in w [] e = sum_by-cons w e []
sum-put_in w (x ∷ xs) e = here (nat_lt e.at x.at) (sum-put_in w xs e) where
  here : (c : Bool) → sum_by w (put_in xs e) ≡ w e + sum_by w xs
      → sum_by w (cond c (e ∷ x ∷ xs) (x ∷ put_in xs e)) ≡ w e + sum_by w (x ∷ xs)
  here true ih = sum_by-cons w e (x ∷ xs)
  here false ih = omega (arith, sum_by-cons w x xs, sum_by-cons w x (put_in xs e), ih)

pub each-begins : (P : Extent → Type 0) (es : List Extent) (at : ℕ) (e : Extent) → AllByRecursion P es
    → begins_at es at ≡ Some e → P e
each-begins P [] at e all h = absurd cc
each-begins P (x ∷ xs) at e all h = here (x.at == at) h (each-begins P xs at e all.1) where
  here : (c : Bool) → cond c (Some x) (begins_at xs at) ≡ Some e → (begins_at xs at ≡ Some e → P e) → P e
  here true h ih = let same : x ≡ e = cc in subst P same all.0
  here false h ih = ih h

pub each-without_at : (P : Extent → Type 0) (es : List Extent) (at : ℕ) → AllByRecursion P es
    → AllByRecursion P (without_at es at)
each-without_at P [] at all = tt
each-without_at P (x ∷ xs) at all = here (x.at == at) (each-without_at P xs at all.1) where
  here : (c : Bool) → AllByRecursion P (without_at xs at) → AllByRecursion P (cond c xs (x ∷ without_at xs at))
  here true ih = all.1
  here false ih = (all.0, ih)

pub each-put_in : (P : Extent → Type 0) (es : List Extent) (e : Extent) → AllByRecursion P es → P e
    → AllByRecursion P (put_in es e)
each-put_in P [] e all one = (one, tt)
each-put_in P (x ∷ xs) e all one = here (nat_lt e.at x.at) (each-put_in P xs e all.1 one) where
  here : (c : Bool) → AllByRecursion P (put_in xs e) → AllByRecursion P (cond c (e ∷ x ∷ xs) (x ∷ put_in xs e))
  here true ih = (one, all)
  here false ih = (all.0, ih)

-- Entries of an order.

pub sum-without : (w : Entry → ℕ) (es : List Entry) (f at : ℕ) (e : Entry) → ranking.entry_at es f at ≡ Some e
    → sum_by w es ≡ w e + sum_by w (ranking.without es f at)
sum-without w [] f at e h = absurd cc
sum-without w (x ∷ xs) f at e h = here (ranking.is_at x f at) h (sum-without w xs f at e) where
  here : (c : Bool) → cond c (Some x) (ranking.entry_at xs f at) ≡ Some e
      → (ranking.entry_at xs f at ≡ Some e → sum_by w xs ≡ w e + sum_by w (ranking.without xs f at))
      → sum_by w (x ∷ xs) ≡ w e + sum_by w (cond c xs (x ∷ ranking.without xs f at))
  here true h ih = let same : x ≡ e = cc in sum_by-cons w x xs ∙ ap (λ y. w y + sum_by w xs) same
  here false h ih = omega (arith, sum_by-cons w x xs, sum_by-cons w x (ranking.without xs f at), ih h)

pub sum-put_in-entry : (w : Entry → ℕ) (es : List Entry) (e : Entry)
    → sum_by w (ranking.put_in es e) ≡ w e + sum_by w es
sum-put_in-entry w [] e = sum_by-cons w e []
sum-put_in-entry w (x ∷ xs) e = here (ranking.lies_before x e.file e.at) (sum-put_in-entry w xs e) where
  here : (c : Bool) → sum_by w (ranking.put_in xs e) ≡ w e + sum_by w xs
      → sum_by w (cond c (x ∷ ranking.put_in xs e) (e ∷ x ∷ xs)) ≡ w e + sum_by w (x ∷ xs)
  here false ih = sum_by-cons w e (x ∷ xs)
  here true ih = omega (arith, sum_by-cons w x xs, sum_by-cons w x (ranking.put_in xs e), ih)

-- a sum that does not depend on heights
pub sum-map_entry : (w : Entry → ℕ) (g : Entry → Entry) (es : List Entry) → ((e : Entry) → w (g e) ≡ w e)
    → sum_by w (map g es) ≡ sum_by w es
sum-map_entry w g [] h = refl
sum-map_entry w g (x ∷ xs) h =
    omega (arith, sum_by-cons w (g x) (map g xs), sum_by-cons w x xs, h x, sum-map_entry w g xs h)
