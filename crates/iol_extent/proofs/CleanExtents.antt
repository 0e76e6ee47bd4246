-- Extents that become clean in place.
use Rattle.std.proofs.Common.{◌≡◌, ℕ, zero, suc, ◌+◌, ◌<◌, ◌≤◌, ◌==◌, Bool, true, false, cond, List, [], ◌∷◌, length}
use Rattle.std.proofs.Common.{get_or, set, drop, insert, remove, Some, None, refl, sym, ap, ◌∙◌, arith, subst}
use Rattle.std.proofs.lemmas.Bool.Decides.{nat_tests}
use Rattle.std.proofs.lemmas.List.Sums.{sum_by-cons}
use Rattle.iol_extent.specs.Extents.{AreCleanBefore, Extent, IsApart, as_clean, begins_at, cleaned_at, dirty_count}
use Rattle.iol_extent.specs.Extents.{dirty_in, end_of, one_dirty}
use Rattle.iol_extent.proofs.Cover.{begins_is}
use Rattle.iol_extent.proofs.Every.{each_insert, each_remove}

eq_yes : (m n : ℕ) → m ≡ n → (m == n) ≡ true
eq_yes m n h = grind (arith, nat_tests)

eq_no : (m n : ℕ) → m < n → (m == n) ≡ false
eq_no m n h = grind (arith, nat_tests)

-- No extent that begins before a place is dirty.

pub clean_lower : (p q : ℕ) (es : List Extent) → q ≤ p → AreCleanBefore p es → AreCleanBefore q es
clean_lower p q [] le h = tt
clean_lower p q (x ∷ xs) le h = ((λ l. h.0 (omega (arith, l, le))), clean_lower p q xs le h.1)

pub clean_above : (p low : ℕ) (es : List Extent) → p ≤ low → IsApart low es → AreCleanBefore p es
clean_above p low [] le a = tt
clean_above p low (x ∷ xs) le a =
    ((λ l. absurd (omega (arith, l, le, a.0))), clean_above p (end_of x) xs (omega (arith, le, a.0)) a.2)

pub clean_insert : (p : ℕ) (es : List Extent) (k : ℕ) (e : Extent) → AreCleanBefore p es → (e.at < p → e.dirty ≡ false)
    → AreCleanBefore p (insert es k e)
clean_insert p es k e h here = each_insert (λ (x : Extent). x.at < p → x.dirty ≡ false) es k e h here

pub clean_remove : (p : ℕ) (es : List Extent) (k : ℕ) → AreCleanBefore p es → AreCleanBefore p (remove es k)
clean_remove p es k h = each_remove (λ (x : Extent). x.at < p → x.dirty ≡ false) es k h

-- The number of dirty extents.

pub dirty_insert : (es : List Extent) (k : ℕ) (e : Extent) → dirty_count (insert es k e) ≡ one_dirty e + dirty_count es
dirty_insert [] zero e = sum_by-cons one_dirty e []
dirty_insert [] (suc k) e = sum_by-cons one_dirty e []
dirty_insert (x ∷ xs) zero e = sum_by-cons one_dirty e (x ∷ xs)
dirty_insert (x ∷ xs) (suc k) e =
    omega (arith, sum_by-cons one_dirty x (insert xs k e), sum_by-cons one_dirty x xs, dirty_insert xs k e)

pub dirty_remove : (es : List Extent) (k : ℕ) (d : Extent) → k < length es
    → dirty_count es ≡ one_dirty (get_or es k d) + dirty_count (remove es k)
dirty_remove [] k d l = absurd (omega (arith, l))
dirty_remove (x ∷ xs) zero d l = sum_by-cons one_dirty x xs
dirty_remove (x ∷ xs) (suc k) d l =
    omega (
      arith,
      sum_by-cons one_dirty x (remove xs k),
      sum_by-cons one_dirty x xs,
      dirty_remove xs k d (omega (arith, l)),
    )

pub one_yes : (e : Extent) → e.dirty ≡ true → one_dirty e ≡ 1
one_yes e h = ap (λ b. cond {A = ℕ} b 1 0) h

pub one_no : (e : Extent) → e.dirty ≡ false → one_dirty e ≡ 0
one_no e h = ap (λ b. cond {A = ℕ} b 1 0) h

pub none_dirty : (es : List Extent) → dirty_count es ≡ 0 → dirty_in es ≡ None
none_dirty [] h = refl
none_dirty (x ∷ xs) h = pick x.dirty refl (none_dirty xs (omega (arith, h, sum_by-cons one_dirty x xs)))
  where
    pick : (b : Bool) → x.dirty ≡ b → dirty_in xs ≡ None → cond b (Some x) (dirty_in xs) ≡ None
    pick true is ih = absurd (omega (arith, h, sum_by-cons one_dirty x xs, one_yes x is))
    pick false is ih = ih

-- The search for the first dirty extent continues at a place.

pub search_on : (low : ℕ) (es : List Extent) (k p : ℕ) (d : Extent) → IsApart low es → AreCleanBefore p es
    → k ≤ length es → ((j : ℕ) → j < k → end_of (get_or es j d) ≤ p) → dirty_in (drop k es) ≡ dirty_in es
search_on low [] zero p d a h le ends = refl
search_on low [] (suc k) p d a h le ends = refl
search_on low (x ∷ xs) zero p d a h le ends = refl
search_on low (x ∷ xs) (suc k) p d a h le ends =
    let clean : x.dirty ≡ false = h.0 (omega (arith, ends 0 (omega arith), a.1)) in
    search_on (end_of x) xs k p d a.2 h.1 (omega (arith, le)) (λ j l. ends (suc j) (omega (arith, l)))
    ∙ ap (λ b. cond b (Some x) (dirty_in xs)) (sym clean)

pub search_more : (es : List Extent) (i : ℕ) (x : Extent) → i < length es → x ≡ get_or es i x → x.dirty ≡ false
    → dirty_in (drop (i + 1) es) ≡ dirty_in (drop i es)
search_more [] i x l is clean = absurd (omega (arith, l))
search_more (y ∷ ys) zero x l is clean =
    ap (λ b. cond b (Some y) (dirty_in ys)) (sym (ap (λ (z : Extent). z.dirty) (sym is) ∙ clean))
search_more (y ∷ ys) (suc i) x l is clean =
    ap (λ n. dirty_in (drop n (y ∷ ys))) (let e : suc i + 1 ≡ suc (i + 1) = omega arith in e)
    ∙ search_more ys i x (omega (arith, l)) is clean

pub search_found : (es : List Extent) (i : ℕ) (x : Extent) → i < length es → x ≡ get_or es i x → x.dirty ≡ true
    → dirty_in (drop i es) ≡ Some x
search_found [] i x l is dirty = absurd (omega (arith, l))
search_found (y ∷ ys) zero x l is dirty =
    ap (λ b. cond b (Some y) (dirty_in ys)) (ap (λ (z : Extent). z.dirty) (sym is) ∙ dirty)
    ∙ ap (λ (z : Extent). Some z) (sym is)
search_found (y ∷ ys) (suc i) x l is dirty = search_found ys i x (omega (arith, l)) is dirty

pub search_past : (es : List Extent) (i : ℕ) → length es ≤ i → dirty_in (drop i es) ≡ None
search_past [] zero le = refl
search_past [] (suc i) le = refl
search_past (y ∷ ys) zero le = absurd (omega (arith, le))
search_past (y ∷ ys) (suc i) le = search_past ys i (omega (arith, le))

-- The first dirty extent becomes clean.

pub first_begins : (low : ℕ) (es : List Extent) (e : Extent) → IsApart low es → dirty_in es ≡ Some e
    → (begins_at es e.at ≡ Some e) × (e.dirty ≡ true) × (low ≤ e.at)
first_begins low [] e a h = cc
first_begins low (x ∷ xs) e a h = pick x.dirty refl h (λ k. first_begins (end_of x) xs e a.2 k)
  where
    pick : (b : Bool) → x.dirty ≡ b → cond b (Some x) (dirty_in xs) ≡ Some e
        → (dirty_in xs ≡ Some e → (begins_at xs e.at ≡ Some e) × (e.dirty ≡ true) × (end_of x ≤ e.at))
        → (begins_at (x ∷ xs) e.at ≡ Some e) × (e.dirty ≡ true) × (low ≤ e.at)
    pick true is h ih =
        let same : x ≡ e = cc in (
          ap (λ b. cond b (Some x) (begins_at xs e.at)) (eq_yes x.at e.at (ap (λ (z : Extent). z.at) same))
              ∙ ap (λ (z : Extent). Some z) same,
          ap (λ (z : Extent). z.dirty) (sym same) ∙ is,
          omega (arith, a.0, ap (λ (z : Extent). z.at) same),
        )
    pick false is h ih =
        let r = ih h in (
          ap (λ b. cond b (Some x) (begins_at xs e.at)) (eq_no x.at e.at (omega (arith, r.2, a.1)))
              ∙ r.0,
          r.1,
          omega (arith, r.2, a.0),
        )

pub set_cleaned : (low : ℕ) (es : List Extent) (k at : ℕ) (d : Extent) → IsApart low es → k < length es
    → ((j : ℕ) → j < k → end_of (get_or es j d) ≤ at) → (get_or es k d).at ≡ at
    → set es k (as_clean (get_or es k d)) ≡ cleaned_at es at
set_cleaned low [] k at d a h b f = absurd (omega (arith, h))
set_cleaned low (x ∷ xs) zero at d a h b f =
    ap (λ t. cond t (as_clean x ∷ xs) (x ∷ cleaned_at xs at)) (sym (eq_yes x.at at f))
set_cleaned low (x ∷ xs) (suc k) at d a h b f =
    let past = b 0 (omega arith) in
    ap (λ t. x ∷ t) (set_cleaned (end_of x) xs k at d a.2 (omega (arith, h)) (λ j m. b (suc j) (omega (arith, m))) f)
    ∙ ap (λ t. cond t (as_clean x ∷ xs) (x ∷ cleaned_at xs at)) (sym (eq_no x.at at (omega (arith, past, a.1))))

pub cleaned_apart : (low : ℕ) (es : List Extent) (at : ℕ) → IsApart low es → IsApart low (cleaned_at es at)
cleaned_apart low [] at a = tt
cleaned_apart low (x ∷ xs) at a = pick (x.at == at) (cleaned_apart (end_of x) xs at a.2)
  where
    pick : (b : Bool) → IsApart (end_of x) (cleaned_at xs at)
        → IsApart low (cond b (as_clean x ∷ xs) (x ∷ cleaned_at xs at))
    pick true ih = (a.0, a.1, a.2)
    pick false ih = (a.0, a.1, ih)

pub cleaned_count : (low : ℕ) (es : List Extent) (e : Extent) → IsApart low es → dirty_in es ≡ Some e
    → dirty_count (cleaned_at es e.at) + 1 ≡ dirty_count es
cleaned_count low [] e a h = cc
cleaned_count low (x ∷ xs) e a h = pick x.dirty refl h (λ k. cleaned_count (end_of x) xs e a.2 k)
  where
    pick : (b : Bool) → x.dirty ≡ b → cond b (Some x) (dirty_in xs) ≡ Some e
        → (dirty_in xs ≡ Some e → dirty_count (cleaned_at xs e.at) + 1 ≡ dirty_count xs)
        → dirty_count (cleaned_at (x ∷ xs) e.at) + 1 ≡ dirty_count (x ∷ xs)
    pick true is h ih =
        let same : x ≡ e = cc in
        let here =
        ap (λ t. dirty_count (cond t (as_clean x ∷ xs) (x ∷ cleaned_at xs e.at)))
        (eq_yes x.at e.at (ap (λ (z : Extent). z.at) same)) in
        omega (
          arith,
          here,
          sum_by-cons one_dirty (as_clean x) xs,
          sum_by-cons one_dirty x xs,
          one_yes x is,
          one_no (as_clean x) refl,
        )
    pick false is h ih =
        let r = first_begins (end_of x) xs e a.2 h in
        let here =
        ap (λ t. dirty_count (cond t (as_clean x ∷ xs) (x ∷ cleaned_at xs e.at)))
        (eq_no x.at e.at (omega (arith, r.2, a.1))) in
        omega (arith, here, sum_by-cons one_dirty x (cleaned_at xs e.at), sum_by-cons one_dirty x xs, ih h)

-- the index of the first dirty extent
pub first_found : (es : List Extent) (k at : ℕ) (e : Extent) → IsApart 0 es → k ≤ length es
    → ((j : ℕ) (d : Extent) → j < k → end_of (get_or es j d) ≤ at)
    → ((d : Extent) → k < length es → at < end_of (get_or es k d)) → dirty_in es ≡ Some e → e.at ≡ at
    → (k < length es) × (get_or es k e ≡ e) × (e.at ≡ at)
first_found es k at e a w b t h is =
    begins_is 0 es k at e a w b t (ap (begins_at es) (sym is) ∙ (first_begins 0 es e a h).0)

-- no extent that begins there or before is dirty any more
pub cleaned_before : (low : ℕ) (es : List Extent) (e : Extent) → IsApart low es → dirty_in es ≡ Some e
    → AreCleanBefore (e.at + 1) (cleaned_at es e.at)
cleaned_before low [] e a h = cc
cleaned_before low (x ∷ xs) e a h = pick x.dirty refl h (λ k. cleaned_before (end_of x) xs e a.2 k)
  where
    pick : (b : Bool) → x.dirty ≡ b → cond b (Some x) (dirty_in xs) ≡ Some e
        → (dirty_in xs ≡ Some e → AreCleanBefore (e.at + 1) (cleaned_at xs e.at))
        → AreCleanBefore (e.at + 1) (cleaned_at (x ∷ xs) e.at)
    pick true is h ih =
        let same : x.at ≡ e.at = ap (λ (z : Extent). z.at) (let s : x ≡ e = cc in s) in
        let all : AreCleanBefore (e.at + 1) (as_clean x ∷ xs) =
        ((λ l. refl), clean_above (e.at + 1) (end_of x) xs (omega (arith, same, a.1)) a.2) in
        subst (λ t. AreCleanBefore (e.at + 1) (cond t (as_clean x ∷ xs) (x ∷ cleaned_at xs e.at)))
        (sym (eq_yes x.at e.at same)) all
    pick false is h ih =
        let r = first_begins (end_of x) xs e a.2 h in
        let all : AreCleanBefore (e.at + 1) (x ∷ cleaned_at xs e.at) = ((λ l. is), ih h) in
        subst (λ t. AreCleanBefore (e.at + 1) (cond t (as_clean x ∷ xs) (x ∷ cleaned_at xs e.at)))
        (sym (eq_no x.at e.at (omega (arith, r.2, a.1)))) all
