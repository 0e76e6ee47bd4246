-- The entries of orders and the clean extents that they are of.
use Rattle.std.proofs.Common.{inl, inr, ◌≡◌, ◌≢◌, ℕ, ◌+◌, ◌<◌, ◌≤◌, Bool, true, false, cond, eqb, List, [], ◌∷◌, length}
use Rattle.std.proofs.Common.{get_or, Option, Some, None, refl, sym, ap, ◌∙◌, arith, subst}
use Rattle.std.specs.Prelude.{◌&&◌, not, map}
use Rattle.std.specs.List.{Contains}
use Rattle.std.proofs.lemmas.Bool.{cases_eq}
use Rattle.std.proofs.lemmas.Bool.Decides.{nat_tests}
use Rattle.std.proofs.lemmas.List.Sums.{sum_by-cons, get_or-le-sum_by}
use Rattle.std.proofs.lemmas.List.{length-map}
use Rattle.iol_extent.specs.Extents.{Extent, without_at}
use Rattle.iol_evict.specs.Order.{Ranking, is_at, entry_at, without, lowered_by, lowered, evicted_at, left_at, entry_or}
use Rattle.iol_evict.specs.declared.entry.Entry.{Entry}
use Rattle.iol_cache.specs.declared.files.CachedFile.{CachedFile}
use Rattle.iol_cache.specs.CacheState.{file_in, with_file, order_in, extents_in, begins_clean, clean_at, entry_one}
use Rattle.iol_cache.specs.CacheState.{entries_at, clean_of, AreRanked, lacking, without_extent, with_evicted}
use Rattle.iol_cache.specs.Evictions.{IsCleanAt}
use Rattle.iol_cache.specs.Sound.{IsFiled}
use Rattle.iol_hold.specs.StoreState.{Stored}
use Rattle.iol_cache.proofs.Extents.FileEntries.{file_same, file_other, order_same, order_other, sum-without}
use Rattle.iol_cache.proofs.Extents.FileEntries.{sum-without_at, sum-map_entry}
use Rattle.iol_cache.proofs.Extents.FewerExtents.{eq_of, clean_begins, begins_above}

-- `is_at` compares an entry's file and its offset
pub is_at-both : (e : Entry) (f at : ℕ) → is_at e f at ≡ true → (e.file ≡ f) × (e.at ≡ at)
is_at-both e f at h = (grind (arith, nat_tests, h), grind (arith, nat_tests, h))

pub is_at-self : (e : Entry) → is_at e e.file e.at ≡ true
is_at-self e = grind (arith, nat_tests)

some_entry : {o : Option Entry} {e : Entry} → o ≡ Some e → o ≡ None → ⊥
some_entry p q = cc

pub found_at : (es : List Entry) (f at : ℕ) (e : Entry) → entry_at es f at ≡ Some e → (e.file ≡ f) × (e.at ≡ at)
found_at [] f at e h = absurd cc
found_at (x ∷ xs) f at e h = here (is_at x f at) refl h (found_at xs f at e) where
  here : (b : Bool) → is_at x f at ≡ b → cond b (Some x) (entry_at xs f at) ≡ Some e
      → (entry_at xs f at ≡ Some e → (e.file ≡ f) × (e.at ≡ at)) → (e.file ≡ f) × (e.at ≡ at)
  here true is h ih = let same : x ≡ e = cc in let P : Entry → Type 0 = λ y. (y.file ≡ f) × (y.at ≡ at) in
      subst P same (is_at-both x f at is)
  here false is h ih = ih h

-- `entry_at` finds an entry if there is one
pub entry_found : (es : List Entry) (f at : ℕ) → 0 < entries_at f at es → (e : Entry) × (entry_at es f at ≡ Some e)
entry_found [] f at h = absurd (omega (arith, h))
entry_found (x ∷ xs) f at h = here (is_at x f at) refl (entry_found xs f at) where
  here : (b : Bool) → is_at x f at ≡ b → (0 < entries_at f at xs → (e : Entry) × (entry_at xs f at ≡ Some e))
      → (e : Entry) × (cond b (Some x) (entry_at xs f at) ≡ Some e)
  here true is ih = (x, refl)
  here false is ih = ih (omega (arith, sum_by-cons (entry_one f at) x xs, ap (λ b. cond {A = ℕ} b 1 0) is, h))

pub entry_there : (es : List Entry) (f at : ℕ) → 0 < entries_at f at es → entry_at es f at ≢ None
entry_there es f at h = λ none. (let e = entry_found es f at h in some_entry e.1 none)

pub entry_absent : (es : List Entry) (f at : ℕ) → entries_at f at es ≡ 0 → entry_at es f at ≡ None
entry_absent [] f at h = refl
entry_absent (x ∷ xs) f at h = here (is_at x f at) refl (entry_absent xs f at) where
  here : (b : Bool) → is_at x f at ≡ b → (entries_at f at xs ≡ 0 → entry_at xs f at ≡ None)
      → cond b (Some x) (entry_at xs f at) ≡ None
  here true is ih = absurd (omega (arith, sum_by-cons (entry_one f at) x xs, ap (λ b. cond {A = ℕ} b 1 0) is, h))
  here false is ih = ih (omega (arith, sum_by-cons (entry_one f at) x xs, h))

-- each entry is one of its place
pub entry_counts : (es : List Entry) (i : ℕ) (d : Entry) → i < length es
    → 0 < entries_at (get_or es i d).file (get_or es i d).at es
entry_counts es i d h =
    let e = get_or es i d in
    omega (arith, get_or-le-sum_by (entry_one e.file e.at) es i d h, ap (λ b. cond {A = ℕ} b 1 0) (is_at-self e))

pub member_counts : (es : List Entry) (e : Entry) → Contains es e → 0 < entries_at e.file e.at es
member_counts [] e c = absurd (omega (arith, c.1))
member_counts (x ∷ xs) e c = let h = entry_counts (x ∷ xs) c.0 e c.1 in
    subst (λ (y : Entry). 0 < entries_at y.file y.at (x ∷ xs)) c.2 h

-- the clean extent that an entry is of
pub ranked_clean : {s : Stored} (fs : List CachedFile) (os : List Ranking) (p f at : ℕ) → AreRanked fs os
    → IsFiled s (file_in fs f) → 0 < entries_at f at (order_in os p).entries
    → ((file_in fs f).pool ≡ p) × IsCleanAt fs f at
ranked_clean fs os p f at ranked filed h =
    here (eqb (file_in fs f).pool p) refl (omega (arith, ranked.each p f at, h)) where
      here : (b : Bool) → eqb (file_in fs f).pool p ≡ b → 0 < cond {A = ℕ} b (clean_at at (extents_in fs f)) 0
          → ((file_in fs f).pool ≡ p) × IsCleanAt fs f at
      here true is h =
          (let c = clean_begins 0 (extents_in fs f) at filed.apart h in
          (eq_of (file_in fs f).pool p is, record { extent = c.0; begins = c.1; clean = c.2 }))
      here false is h = absurd (omega (arith, h))

pub clean_one : (at : ℕ) (e : Extent) → e.at ≡ at → e.dirty ≡ false → begins_clean at e ≡ 1
clean_one at e is clean = ap (λ b. cond {A = ℕ} (eqb e.at at && not b) 1 0) clean ∙ grind (arith, nat_tests, is)

-- the entry that a clean extent has
pub clean_ranked : {s : Stored} (fs : List CachedFile) (os : List Ranking) (f at : ℕ) → AreRanked fs os
    → IsFiled s (file_in fs f) → IsCleanAt fs f at → 0 < entries_at f at (order_in os (file_in fs f).pool).entries
clean_ranked fs os f at ranked filed c =
    let es = extents_in fs f in
    let p = (file_in fs f).pool in
    let one = clean_one at c.extent (begins_above 0 es at c.extent filed.apart c.begins).1 c.clean in
    let some = sum-without_at (begins_clean at) es at c.extent c.begins in
    let same : clean_of fs p f at ≡ clean_at at es = ap (λ b. cond {A = ℕ} b (clean_at at es) 0) (self p) in
    omega (arith, one, some, same, ranked.each p f at)
  where
    self : (n : ℕ) → eqb n n ≡ true
    self n = grind (arith, nat_tests)

-- An entry is evicted.

lowered_entries : (r : Ranking) (f at : ℕ) → entries_at f at (lowered r).entries ≡ entries_at f at r.entries
lowered_entries r f at = here _ where
  here : (b : Bool)
      → entries_at f at (cond b (let l : Ranking = record r { low = 0; entries = map (lowered_by r.low) r.entries } in
      l) r).entries ≡ entries_at f at r.entries
  here true = sum-map_entry (entry_one f at) (lowered_by r.low) r.entries (λ e. refl)
  here false = refl

pub evicted_entries : (r : Ranking) (f at g b : ℕ) (e : Entry) → entry_at r.entries f at ≡ Some e
    → entries_at g b r.entries ≡ entry_one g b e + entries_at g b (evicted_at r f at).entries
evicted_entries r f at g b e h = sum-without (entry_one g b) r.entries f at e h
    ∙ ap (λ n. entry_one g b e + n)
    (sym (lowered_entries (record (left_at r f at) { low = (entry_or r.entries f at).height }) g b))

-- an order has fewer entries
length_without : (es : List Entry) (f at : ℕ) (e : Entry) → entry_at es f at ≡ Some e
    → length (without es f at) < length es
length_without [] f at e h = absurd cc
length_without (x ∷ xs) f at e h = here (is_at x f at) h (length_without xs f at e) where
  here : (b : Bool) → cond b (Some x) (entry_at xs f at) ≡ Some e
      → (entry_at xs f at ≡ Some e → length (without xs f at) < length xs)
      → length (cond b xs (x ∷ without xs f at)) < length (x ∷ xs)
  here true h ih = omega arith
  here false h ih = omega (arith, ih h)

lowered_length : (r : Ranking) → length (lowered r).entries ≡ length r.entries
lowered_length r = here _ where
  here : (b : Bool)
      → length (cond b (let l : Ranking = record r { low = 0; entries = map (lowered_by r.low) r.entries } in
      l) r).entries ≡ length r.entries
  here true = length-map r.entries (lowered_by r.low)
  here false = refl

pub evicted_fewer : (r : Ranking) (f at : ℕ) (e : Entry) → entry_at r.entries f at ≡ Some e
    → length (evicted_at r f at).entries < length r.entries
evicted_fewer r f at e h =
    omega (
      arith,
      length_without r.entries f at e h,
      lowered_length (record (left_at r f at) { low = (entry_or r.entries f at).height }),
    )

same_one : (f at b : ℕ) (e : Extent) (v : Entry) → e.at ≡ at → e.dirty ≡ false → v.file ≡ f → v.at ≡ at
    → begins_clean b e ≡ entry_one f b v
same_one f at b e v ea clean vf va = ap (λ d. cond {A = ℕ} (eqb e.at b && not d) 1 0) clean
    ∙ grind (arith, nat_tests, ea, vf, va)

other_one : (f g b : ℕ) (v : Entry) → v.file ≡ f → (g ≡ f → ⊥) → entry_one g b v ≡ 0
other_one f g b v vf ne = grind (arith, nat_tests, vf, ne)

if_pool : (p q n : ℕ) → p ≡ q → cond {A = ℕ} (eqb p q) n 0 ≡ n
if_pool p q n is = grind (arith, nat_tests, is)

not_pool : (p q n : ℕ) → (p ≡ q → ⊥) → cond {A = ℕ} (eqb p q) n 0 ≡ 0
not_pool p q n ne = grind (arith, nat_tests, ne)

of_other : (fs : List CachedFile) (f g : ℕ) (x : CachedFile) (q b : ℕ) → (g ≡ f → ⊥)
    → clean_of (with_file fs f x) q g b ≡ clean_of fs q g b
of_other fs f g x q b ne =
    ap (λ (y : CachedFile). cond {A = ℕ} (eqb y.pool q) (clean_at b y.extents.extents) 0) (file_other fs f g x ne)

of_same : (fs : List CachedFile) (f : ℕ) (x : CachedFile) (q b : ℕ) → (0 < f) × (f ≤ length fs)
    → clean_of (with_file fs f x) q f b ≡ cond {A = ℕ} (eqb x.pool q) (clean_at b x.extents.extents) 0
of_same fs f x q b numbered =
    ap (λ (y : CachedFile). cond {A = ℕ} (eqb y.pool q) (clean_at b y.extents.extents) 0)
    (file_same fs f x numbered.0 numbered.1)

-- the clean extent and its entry are removed
pub ranked_evicted : {s : Stored} (fs : List CachedFile) (os : List Ranking) (f at : ℕ) → (0 < f) × (f ≤ length fs)
    → (0 < (file_in fs f).pool) × ((file_in fs f).pool ≤ length os) → AreRanked fs os → IsFiled s (file_in fs f)
    → IsCleanAt fs f at → AreRanked (without_extent fs f at) (with_evicted os (file_in fs f).pool f at)
ranked_evicted fs os f at numbered ordered ranked filed c =
    let p = (file_in fs f).pool in
    let r = order_in os p in
    let es = extents_in fs f in
    let x = lacking (file_in fs f) at in
    let some = entry_found r.entries f at (clean_ranked fs os f at ranked filed c) in
    let lies = found_at r.entries f at some.0 some.1 in
    let begins = (begins_above 0 es at c.extent filed.apart c.begins).1 in
    record {
      each = λ q g b. elim (cases_eq q p) [
        | inl same ↦ (
            let now = ap (λ (y : Ranking). entries_at g b y.entries) (ap (order_in (with_evicted os p f at)) same
            ∙ order_same os p (evicted_at r f at) ordered.0 ordered.1) in
            let gone = evicted_entries r f at g b some.0 some.1 in
            elim (cases_eq g f) [
              | inl here ↦ (
                  let was = ranked.each p f b ∙ if_pool p p (clean_at b es) refl in
                  let less = sum-without_at (begins_clean b) es at c.extent c.begins in
                  let one = same_one f at b c.extent some.0 begins c.clean lies.0 lies.1 in
                  let is = of_same fs f x p b numbered ∙ if_pool p p (clean_at b (without_at es at)) refl in
                  let moved = ap (λ n. entries_at n b r.entries) here in
                  let other = ap (λ n. entry_one n b some.0) here in
                  let files = ap (λ n. clean_of (without_extent fs f at) n g b) same
                  ∙ ap (λ n. clean_of (without_extent fs f at) p n b) here in
                  omega (arith, now, gone, was, less, one, is, moved, other, files))
              | inr ne ↦ (
                  let none = other_one f g b some.0 lies.0 ne in
                  let files = ap (λ n. clean_of (without_extent fs f at) n g b) same ∙ of_other fs f g x p b ne in
                  omega (arith, now, gone, none, files, ranked.each p g b))
            ])
        | inr apart ↦ (
            let now = ap (λ (y : Ranking). entries_at g b y.entries) (order_other os p q (evicted_at r f at) apart) in
            elim (cases_eq g f) [
              | inl here ↦ (
                  let was = ranked.each q f b ∙ not_pool p q (clean_at b es) (λ e. apart (sym e)) in
                  let is = of_same fs f x q b numbered
                  ∙ not_pool p q (clean_at b (without_at es at)) (λ e. apart (sym e)) in
                  let moved = ap (λ n. entries_at n b (order_in os q).entries) here in
                  let files = ap (λ n. clean_of (without_extent fs f at) q n b) here in
                  omega (arith, now, was, is, moved, files))
              | inr ne ↦ omega (arith, now, of_other fs f g x q b ne, ranked.each q g b)
            ])
      ];
    }
