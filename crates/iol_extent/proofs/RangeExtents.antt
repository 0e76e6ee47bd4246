-- Extents that have bytes of a range.
use Rattle.std.proofs.Common.{inl, inr, ◌≡◌, ◌⊎◌, ℕ, zero, suc, ◌<◌, ◌≤◌, ◌==◌, Bool, true, false, cond, List, [], ◌∷◌}
use Rattle.std.proofs.Common.{length, get_or, Some, None, refl, sym, ap, ◌∙◌, arith, subst}
use Rattle.std.proofs.lemmas.Bool.Decides.{nat_tests}
use Rattle.iol_extent.specs.Extents.{Extent, IsApart, begins_at, cell_at, cover, end_of, extent_over, is_over, meets}
use Rattle.iol_extent.specs.Extents.{met_in, unmet, without_at}
use Rattle.iol_extent.proofs.Cover.{cover_low}

met_yes : (e : Extent) (from to : ℕ) → e.at < to → from < end_of e → meets from to e ≡ true
met_yes e from to h k = grind (arith, nat_tests)

met_no : (e : Extent) (from to : ℕ) → (to ≤ e.at) ⊎ (end_of e ≤ from) → meets from to e ≡ false
met_no e from to (inl h) = above e from to h where
  above : (e : Extent) (from to : ℕ) → to ≤ e.at → meets from to e ≡ false
  above e from to h = grind (arith, nat_tests)
met_no e from to (inr h) = below e from to h where
  below : (e : Extent) (from to : ℕ) → end_of e ≤ from → meets from to e ≡ false
  below e from to h = grind (arith, nat_tests)

-- no extent from the end of the range on meets it
met_late : (low : ℕ) (es : List Extent) (from to : ℕ) → IsApart low es → to ≤ low → met_in es from to ≡ None
met_late low [] from to a h = refl
met_late low (e ∷ es) from to a h =
    ap (λ b. cond b (Some e) (met_in es from to)) (met_no e from to (inl (omega (arith, h, a.0))))
    ∙ met_late (end_of e) es from to a.2 (omega (arith, h, a.0))

pub met_found : (low : ℕ) (es : List Extent) (k from to : ℕ) (d : Extent) → IsApart low es → k < length es
    → ((j : ℕ) → j < k → end_of (get_or es j d) ≤ from) → from < end_of (get_or es k d) → (get_or es k d).at < to
    → met_in es from to ≡ Some (get_or es k d)
met_found low [] k from to d a h b t f = absurd (omega arith)
met_found low (e ∷ es) zero from to d a h b t f = ap (λ c. cond c (Some e) (met_in es from to)) (met_yes e from to f t)
met_found low (e ∷ es) (suc k) from to d a h b t f =
    ap (λ c. cond c (Some e) (met_in es from to)) (met_no e from to (inr (b 0 (omega arith))))
    ∙ met_found (end_of e) es k from to d a.2 (omega arith) (λ j l. b (suc j) (omega arith)) t f

pub met_missed : (low : ℕ) (es : List Extent) (k from to : ℕ) (d : Extent) → IsApart low es → k ≤ length es
    → ((j : ℕ) → j < k → end_of (get_or es j d) ≤ from) → (k < length es → to ≤ (get_or es k d).at)
    → met_in es from to ≡ None
met_missed low [] k from to d a h b f = refl
met_missed low (e ∷ es) zero from to d a h b f =
    met_late e.at (e ∷ es) from to (omega arith, a.1, a.2) (f (omega arith))
met_missed low (e ∷ es) (suc k) from to d a h b f =
    ap (λ c. cond c (Some e) (met_in es from to)) (met_no e from to (inr (b 0 (omega arith))))
    ∙ met_missed (end_of e) es k from to d a.2 (omega arith) (λ j l. b (suc j) (omega arith)) (λ l. f (omega arith))

-- The first extent that meets a range, and the others.

eq_yes : (m n : ℕ) → m ≡ n → (m == n) ≡ true
eq_yes m n h = grind (arith, nat_tests)

eq_no : (m n : ℕ) → m < n → (m == n) ≡ false
eq_no m n h = grind (arith, nat_tests)

pub met_low : (low : ℕ) (es : List Extent) (from to : ℕ) (e : Extent) → IsApart low es → met_in es from to ≡ Some e
    → low ≤ e.at
met_low low [] from to e a h = cc
met_low low (x ∷ xs) from to e a h = here (meets from to x) h (met_low (end_of x) xs from to e a.2) where
  here : (b : Bool) → cond b (Some x) (met_in xs from to) ≡ Some e → (met_in xs from to ≡ Some e → end_of x ≤ e.at)
      → low ≤ e.at
  here true h ih = let same : x ≡ e = cc in subst (λ (y : Extent). low ≤ y.at) same a.0
  here false h ih = omega (arith, ih h, a.0)

pub met_begins : (low : ℕ) (es : List Extent) (from to : ℕ) (e : Extent) → IsApart low es → met_in es from to ≡ Some e
    → begins_at es e.at ≡ Some e
met_begins low [] from to e a h = cc
met_begins low (x ∷ xs) from to e a h = here (meets from to x) h (met_begins (end_of x) xs from to e a.2) where
  here : (b : Bool) → cond b (Some x) (met_in xs from to) ≡ Some e
      → (met_in xs from to ≡ Some e → begins_at xs e.at ≡ Some e) → begins_at (x ∷ xs) e.at ≡ Some e
  here true h ih = let same : x ≡ e = cc in
      ap (λ b. cond b (Some x) (begins_at xs e.at)) (eq_yes x.at e.at (ap (λ (y : Extent). y.at) same))
      ∙ ap (λ (y : Extent). Some y) same
  here false h ih =
      let later = met_low (end_of x) xs from to e a.2 h in
      ap (λ b. cond b (Some x) (begins_at xs e.at)) (eq_no x.at e.at (omega (arith, later, a.1))) ∙ ih h

-- removing it leaves the extents that do not meet the range unchanged
pub unmet_less : (low : ℕ) (es : List Extent) (from to : ℕ) (e : Extent) → IsApart low es → met_in es from to ≡ Some e
    → unmet (without_at es e.at) from to ≡ unmet es from to
unmet_less low [] from to e a h = cc
unmet_less low (x ∷ xs) from to e a h = here (meets from to x) refl h (unmet_less (end_of x) xs from to e a.2) where
  here : (b : Bool) → meets from to x ≡ b → cond b (Some x) (met_in xs from to) ≡ Some e
      → (met_in xs from to ≡ Some e → unmet (without_at xs e.at) from to ≡ unmet xs from to)
      → unmet (without_at (x ∷ xs) e.at) from to ≡ unmet (x ∷ xs) from to
  here true is h ih =
      let same : x ≡ e = cc in
      ap (λ b. unmet (cond b xs (x ∷ without_at xs e.at)) from to) (eq_yes x.at e.at (ap (λ (y : Extent). y.at) same))
      ∙ sym (ap (λ b. cond b (unmet xs from to) (x ∷ unmet xs from to)) is)
  here false is h ih =
      let later = met_low (end_of x) xs from to e a.2 h in
      ap (λ b. unmet (cond b xs (x ∷ without_at xs e.at)) from to) (eq_no x.at e.at (omega (arith, later, a.1)))
      ∙ ap (λ l. cond (meets from to x) (unmet (without_at xs e.at) from to) (x ∷ l)) (ih h)
      ∙ ap (λ l. cond (meets from to x) l (x ∷ unmet xs from to)) (ih h)

pub unmet_none : (es : List Extent) (from to : ℕ) → met_in es from to ≡ None → unmet es from to ≡ es
unmet_none [] from to h = refl
unmet_none (x ∷ xs) from to h = here (meets from to x) h (unmet_none xs from to) where
  here : (b : Bool) → cond b (Some x) (met_in xs from to) ≡ None → (met_in xs from to ≡ None → unmet xs from to ≡ xs)
      → cond b (unmet xs from to) (x ∷ unmet xs from to) ≡ x ∷ xs
  here true h ih = cc
  here false h ih = ap (λ l. x ∷ l) (ih h)

pub unmet_apart : (low : ℕ) (es : List Extent) (from to : ℕ) → IsApart low es → IsApart low (unmet es from to)
unmet_apart low [] from to a = tt
unmet_apart low (x ∷ xs) from to a = here (meets from to x) (unmet_apart (end_of x) xs from to a.2) where
  lower : (a b : ℕ) (es : List Extent) → a ≤ b → IsApart b es → IsApart a es
  lower a b [] l h = tt
  lower a b (e ∷ es) l h = (omega (arith, l, h.0), h.1, h.2)

  here : (b : Bool) → IsApart (end_of x) (unmet xs from to)
      → IsApart low (cond b (unmet xs from to) (x ∷ unmet xs from to))
  here true h = lower low (end_of x) (unmet xs from to) (omega (arith, a.0)) h
  here false h = (a.0, a.1, h)

-- an extent that does not meet the range keeps its cover, and the bytes of one that does have none
pub unmet_stays : (es : List Extent) (from to i : ℕ) (e : Extent) → extent_over es i ≡ Some e → meets from to e ≡ false
    → cover (unmet es from to) i ≡ cover es i
unmet_stays [] from to i e h m = refl
unmet_stays (x ∷ xs) from to i e h m =
    here (is_over x i) (meets from to x) refl refl h (λ t. unmet_stays xs from to i e t m) where
      here : (b c : Bool) → is_over x i ≡ b → meets from to x ≡ c → cond b (Some x) (extent_over xs i) ≡ Some e
          → (extent_over xs i ≡ Some e → cover (unmet xs from to) i ≡ cover xs i)
          → cover (unmet (x ∷ xs) from to) i ≡ cover (x ∷ xs) i
      here true c over is h ih =
          let same : x ≡ e = cc in
          let out : meets from to x ≡ false = ap (meets from to) same ∙ m in
          ap (λ b. cover (cond b (unmet xs from to) (x ∷ unmet xs from to)) i) out
          ∙ ap (λ b. cond b (Some (cell_at x i)) (cover (unmet xs from to) i)) over
          ∙ sym (ap (λ b. cond b (Some (cell_at x i)) (cover xs i)) over)
      here false true over is h ih =
          ap (λ b. cover (cond b (unmet xs from to) (x ∷ unmet xs from to)) i) is ∙ ih h
          ∙ sym (ap (λ b. cond b (Some (cell_at x i)) (cover xs i)) over)
      here false false over is h ih =
          ap (λ b. cover (cond b (unmet xs from to) (x ∷ unmet xs from to)) i) is
          ∙ ap (λ b. cond b (Some (cell_at x i)) (cover (unmet xs from to) i)) over
          ∙ ih h ∙ sym (ap (λ b. cond b (Some (cell_at x i)) (cover xs i)) over)

over_from : (e : Extent) (i : ℕ) → is_over e i ≡ true → (e.at ≤ i) × (i < end_of e)
over_from e i h = (grind (arith, nat_tests), grind (arith, nat_tests))

pub unmet_gone : (low : ℕ) (es : List Extent) (from to i : ℕ) (e : Extent) → IsApart low es → extent_over es i ≡ Some e
    → meets from to e ≡ true → cover (unmet es from to) i ≡ None
unmet_gone low [] from to i e a h m = refl
unmet_gone low (x ∷ xs) from to i e a h m =
    here (is_over x i) (meets from to x) refl refl h (λ t. unmet_gone (end_of x) xs from to i e a.2 t m) where
      here : (b c : Bool) → is_over x i ≡ b → meets from to x ≡ c → cond b (Some x) (extent_over xs i) ≡ Some e
          → (extent_over xs i ≡ Some e → cover (unmet xs from to) i ≡ None) → cover (unmet (x ∷ xs) from to) i ≡ None
      here true c over is h ih =
          let same : x ≡ e = cc in
          let met : meets from to x ≡ true = ap (meets from to) same ∙ m in
          ap (λ b. cover (cond b (unmet xs from to) (x ∷ unmet xs from to)) i) met
          ∙ cover_low (end_of x) (unmet xs from to) i (unmet_apart (end_of x) xs from to a.2) (over_from x i over).1
      here false true over is h ih =
          ap (λ b. cover (cond b (unmet xs from to) (x ∷ unmet xs from to)) i) is ∙ ih h
      here false false over is h ih =
          ap (λ b. cover (cond b (unmet xs from to) (x ∷ unmet xs from to)) i) is
          ∙ ap (λ b. cond b (Some (cell_at x i)) (cover (unmet xs from to) i)) over ∙ ih h

pub unmet_free : (es : List Extent) (from to i : ℕ) → cover es i ≡ None → cover (unmet es from to) i ≡ None
unmet_free [] from to i h = refl
unmet_free (x ∷ xs) from to i h = here (is_over x i) (meets from to x) refl refl h (unmet_free xs from to i) where
  here : (b c : Bool) → is_over x i ≡ b → meets from to x ≡ c → cond b (Some (cell_at x i)) (cover xs i) ≡ None
      → (cover xs i ≡ None → cover (unmet xs from to) i ≡ None) → cover (unmet (x ∷ xs) from to) i ≡ None
  here true c over is h ih = cc
  here false true over is h ih = ap (λ b. cover (cond b (unmet xs from to) (x ∷ unmet xs from to)) i) is ∙ ih h
  here false false over is h ih = ap (λ b. cover (cond b (unmet xs from to) (x ∷ unmet xs from to)) i) is
      ∙ ap (λ b. cond b (Some (cell_at x i)) (cover (unmet xs from to) i)) over ∙ ih h

pub met_past : (es : List Extent) (k from to : ℕ) → IsApart 0 es → k ≡ length es
    → ((j : ℕ) (d : Extent) → j < k → end_of (get_or es j d) ≤ from) → met_in es from to ≡ None
met_past es k from to a h b =
    met_missed 0 es k from to none_there a (omega arith) (λ j l. b j none_there l) (λ l. absurd (omega arith))
  where
    none_there : Extent
    none_there = record { at = 0; parts = []; dirty = false }
