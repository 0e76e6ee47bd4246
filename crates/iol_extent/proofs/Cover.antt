use Rattle.std.proofs.Common.{inl, inr, ◌≡◌, ◌⊎◌, ℕ, zero, suc, ◌-◌, ◌<◌, ◌≤◌, ◌==◌, Bool, true, false, cond, List, []}
use Rattle.std.proofs.Common.{◌∷◌, length, get_or, take, Option, Some, None, IsSome, ap, ◌∙◌, refl, sym, arith, subst}
use Rattle.std.proofs.Common.{insert, remove, max}
use Rattle.std.proofs.lemmas.Bool.{cases_lt}
use Rattle.std.proofs.lemmas.Bool.Decides.{nat_tests}
use Rattle.iol_hold.specs.Places.{byte_len}
use Rattle.iol_extent.specs.Extents.{Extent, Cell, extent_over, cover, is_over, cell_at, end_of, IsApart, IsGap, Adds}
use Rattle.iol_extent.specs.Extents.{Lacks, last_end, begins_at}

none_there : Extent
none_there = record { at = 0; parts = []; dirty = false }

over_yes : (e : Extent) (i : ℕ) → e.at ≤ i → i < end_of e → is_over e i ≡ true
over_yes e i h k = grind (arith, nat_tests)

over_no : (e : Extent) (i : ℕ) → (i < e.at) ⊎ (end_of e ≤ i) → is_over e i ≡ false
over_no e i (inl h) = over_below e i h where
  over_below : (e : Extent) (i : ℕ) → i < e.at → is_over e i ≡ false
  over_below e i h = grind (arith, nat_tests)
over_no e i (inr h) = over_above e i h where
  over_above : (e : Extent) (i : ℕ) → end_of e ≤ i → is_over e i ≡ false
  over_above e i h = grind (arith, nat_tests)

over_from : (e : Extent) (i : ℕ) → is_over e i ≡ true → (e.at ≤ i) × (i < end_of e)
over_from e i h = (grind (arith, nat_tests), grind (arith, nat_tests))

pub cover_yes : (e : Extent) (es : List Extent) (i : ℕ) → e.at ≤ i → i < end_of e
    → cover (e ∷ es) i ≡ Some (cell_at e i)
cover_yes e es i h k = ap (λ b. cond b (Some (cell_at e i)) (cover es i)) (over_yes e i h k)

pub cover_no : (e : Extent) (es : List Extent) (i : ℕ) → (i < e.at) ⊎ (end_of e ≤ i) → cover (e ∷ es) i ≡ cover es i
cover_no e es i h = ap (λ b. cond b (Some (cell_at e i)) (cover es i)) (over_no e i h)

-- no extent covers a byte below `low`
pub cover_low : (low : ℕ) (es : List Extent) (i : ℕ) → IsApart low es → i < low → cover es i ≡ None
cover_low low [] i a h = refl
cover_low low (e ∷ es) i a h = cover_no e es i (inl (omega (arith, a.0)))
    ∙ cover_low (end_of e) es i a.2 (omega (arith, a.0, a.1))

-- the cover of byte i is in the extent at k, if the extents before k end at i or before it
pub cover_found : (low : ℕ) (es : List Extent) (k i : ℕ) (d : Extent) → IsApart low es → k < length es
    → ((j : ℕ) → j < k → end_of (get_or es j d) ≤ i) → (get_or es k d).at ≤ i → i < end_of (get_or es k d)
    → cover es i ≡ Some (cell_at (get_or es k d) i)
cover_found low [] k i d a h b f t = absurd (omega arith)
cover_found low (e ∷ es) zero i d a h b f t = cover_yes e es i f t
cover_found low (e ∷ es) (suc k) i d a h b f t = cover_no e es i (inr (b 0 (omega arith)))
    ∙ cover_found (end_of e) es k i d a.2 (omega arith) (λ j l. b (suc j) (omega arith)) f t

-- no extent covers byte i, if the extents before k end at i or before it, and that at k begins after it
pub cover_missed : (low : ℕ) (es : List Extent) (k i : ℕ) (d : Extent) → IsApart low es → k ≤ length es
    → ((j : ℕ) → j < k → end_of (get_or es j d) ≤ i) → (k < length es → i < (get_or es k d).at) → cover es i ≡ None
cover_missed low [] k i d a h b f = refl
cover_missed low (e ∷ es) zero i d a h b f = cover_no e es i (inl (f (omega arith)))
    ∙ cover_low (end_of e) es i a.2 (let g = f (omega arith) in omega arith)
cover_missed low (e ∷ es) (suc k) i d a h b f = cover_no e es i (inr (b 0 (omega arith)))
    ∙ cover_missed (end_of e) es k i d a.2 (omega arith) (λ j l. b (suc j) (omega arith)) (λ l. f (omega arith))

-- two extents that do not overlap may be tested in either order
put_test : (x y : Bool) (c d r : Option Cell) (s : Option Cell) → (y ≡ true → cond x c r ≡ None)
    → (x ≡ true → c ≡ None → ⊥) → s ≡ cond y d r → cond x c s ≡ cond y d (cond x c r)
put_test true true c d r s f g h = absurd (g refl (f refl))
put_test true false c d r s f g h = refl
put_test false y c d r s f g h = h

pub cover_insert : (es : List Extent) (k : ℕ) (e : Extent) (i : ℕ) → (is_over e i ≡ true → cover es i ≡ None)
    → cover (insert es k e) i ≡ cond (is_over e i) (Some (cell_at e i)) (cover es i)
cover_insert es zero e i h = refl
cover_insert [] (suc k) e i h = refl
cover_insert (x ∷ xs) (suc k) e i h =
    put_test (is_over x i) (is_over e i) (Some (cell_at x i)) (Some (cell_at e i)) (cover xs i)
    (cover (insert xs k e) i) h (λ _ n. cc)
    (cover_insert xs k e i (λ y. none_after (is_over x i) (Some (cell_at x i)) (cover xs i) (λ n. cc) (h y)))
  where
    none_after : (x : Bool) (c r : Option Cell) → (c ≡ None → ⊥) → cond x c r ≡ None → r ≡ None
    none_after true c r f h = absurd (f h)
    none_after false c r f h = h

-- an insertion keeps the order
pub insert_apart : (low : ℕ) (es : List Extent) (k : ℕ) (e d : Extent) → IsApart low es → low ≤ e.at
    → 0 < byte_len e.parts → k ≤ length es → ((j : ℕ) → j < k → end_of (get_or es j d) ≤ e.at)
    → (k < length es → end_of e ≤ (get_or es k d).at) → IsApart low (insert es k e)
insert_apart low [] zero e d a l s h b f = (l, s, tt)
insert_apart low (x ∷ xs) zero e d a l s h b f = (l, s, (f (omega arith), a.1, a.2))
insert_apart low [] (suc k) e d a l s h b f = absurd (omega arith)
insert_apart low (x ∷ xs) (suc k) e d a l s h b f = (
  a.0,
  a.1,
  insert_apart (end_of x) xs k e d a.2 (b 0 (omega arith)) s (omega arith) (λ j m. b (suc j) (omega arith))
      (λ m. f (omega arith)),
)

pub adds_insert : (es : List Extent) (k : ℕ) (e : Extent) → IsGap es e.at (end_of e) → Adds es e (insert es k e)
adds_insert es k e g = record { each = λ i. cover_insert es k e i (λ y. let h = over_from e i y in g.each i h.0 h.1) }

-- no extent is empty
pub some_at : (low : ℕ) (es : List Extent) (k : ℕ) (d : Extent) → IsApart low es → k < length es
    → (get_or es k d).at < end_of (get_or es k d)
some_at low [] k d a h = absurd (omega arith)
some_at low (e ∷ es) zero d a h = omega (arith, a.1)
some_at low (e ∷ es) (suc k) d a h = some_at (end_of e) es k d a.2 (omega arith)

-- the first extent that ends after the start of a gap begins at the end of the gap or later
pub gap_after : (es : List Extent) (k from to : ℕ) (d : Extent) → IsApart 0 es → k < length es
    → ((j : ℕ) → j < k → end_of (get_or es j d) ≤ from) → from < end_of (get_or es k d) → from < to → IsGap es from to
    → to ≤ (get_or es k d).at
gap_after es k from to d a h b f t g =
    let at = (get_or es k d).at in
    let some = some_at 0 es k d a h in
    elim (cases_lt at to) [
      | inl l ↦ elim (cases_lt from at) [
        | inl m ↦ let found = cover_found 0 es k at d a h (λ j i. let n = b j i in omega arith) (omega arith) some in
            let none = g.each at (omega arith) l in
            absurd (some_none found none)
        | inr m ↦ let found = cover_found 0 es k from d a h b m f in
            let none = g.each from (omega arith) t in
            absurd (some_none found none)
      ]
      | inr l ↦ l
    ]
  where
    some_none : {o : Option Cell} {c : Cell} → o ≡ Some c → o ≡ None → ⊥
    some_none p q = cc

-- the cover of a byte, by the number of extents that end at it or before it
pub over_past : (es : List Extent) (k i : ℕ) → IsApart 0 es → k ≡ length es
    → ((j : ℕ) (d : Extent) → j < k → end_of (get_or es j d) ≤ i) → cover es i ≡ None
over_past es k i a h b =
    cover_missed 0 es k i none_there a (omega arith) (λ j l. b j none_there l) (λ l. absurd (omega arith))

pub over_before : (es : List Extent) (k i : ℕ) (e : Extent) → IsApart 0 es → k ≤ length es
    → ((j : ℕ) (d : Extent) → j < k → end_of (get_or es j d) ≤ i) → e ≡ get_or es k e → i < e.at → cover es i ≡ None
over_before es k i e a h b r l =
    cover_missed 0 es k i e a h (λ j m. b j e m) (λ m. omega (arith, ap (λ (x : Extent). x.at) r))

pub over_at : (es : List Extent) (k i : ℕ) (e : Extent) → IsApart 0 es → k < length es
    → ((j : ℕ) (d : Extent) → j < k → end_of (get_or es j d) ≤ i) → e ≡ get_or es k e → e.at ≤ i
    → i < end_of (get_or es k e) → cover es i ≡ Some (cell_at e i)
over_at es k i e a h b r f t =
    cover_found 0 es k i e a h (λ j m. b j e m) (omega (arith, ap (λ (x : Extent). x.at) r)) t
    ∙ ap (λ (x : Extent). Some (cell_at x i)) (sym r)

-- an extent is inserted into a gap
pub put_apart : (es : List Extent) (k : ℕ) (e : Extent) → IsApart 0 es → k ≤ length es
    → ((j : ℕ) (d : Extent) → j < k → end_of (get_or es j d) ≤ e.at)
    → ((d : Extent) → k < length es → e.at < end_of (get_or es k d)) → 0 < byte_len e.parts → IsGap es e.at (end_of e)
    → IsApart 0 (insert es k e)
put_apart es k e a h b t s g =
    insert_apart 0 es k e e a (omega arith) s h (λ j m. b j e m)
    (λ m. gap_after es k e.at (end_of e) e a m (λ j n. b j e n) (t e m) (omega arith) g)

pub last_end_insert : (es : List Extent) (k : ℕ) (e : Extent) → last_end (insert es k e) ≡ max (end_of e) (last_end es)
last_end_insert es zero e = refl
last_end_insert [] (suc k) e = refl
last_end_insert (x ∷ xs) (suc k) e = let h = last_end_insert xs k e in omega (arith, h)

eq_from : (m n : ℕ) → (m == n) ≡ true → m ≡ n
eq_from m n h = grind (arith, nat_tests)

ne_from : (m n : ℕ) → m < n → (m == n) ≡ false
ne_from m n h = grind (arith, nat_tests)

begins_low : (low : ℕ) (es : List Extent) (at : ℕ) → IsApart low es → at < low → begins_at es at ≡ None
begins_low low [] at a h = refl
begins_low low (e ∷ es) at a h =
    other (e.at == at) (eq_from e.at at) (begins_low (end_of e) es at a.2 (omega (arith, a.0, a.1))) where
      other : (b : Bool) → (b ≡ true → e.at ≡ at) → begins_at es at ≡ None → cond b (Some e) (begins_at es at) ≡ None
      other true f ih = absurd (omega (arith, f refl, a.0))
      other false f ih = ih

-- the extent that begins at a place is the first that ends after the place
pub begins_is : (low : ℕ) (es : List Extent) (k at : ℕ) (e : Extent) → IsApart low es → k ≤ length es
    → ((j : ℕ) (d : Extent) → j < k → end_of (get_or es j d) ≤ at)
    → ((d : Extent) → k < length es → at < end_of (get_or es k d)) → begins_at es at ≡ Some e
    → (k < length es) × (get_or es k e ≡ e) × (e.at ≡ at)
begins_is low [] k at e a h b t f = cc
begins_is low (x ∷ xs) zero at e a h b t f = first (x.at == at) (eq_from x.at at) f where
  first : (c : Bool) → (c ≡ true → x.at ≡ at) → cond c (Some x) (begins_at xs at) ≡ Some e
      → (0 < length (x ∷ xs)) × (x ≡ e) × (e.at ≡ at)
  first true g f = let same : x ≡ e = cc in (omega arith, same, ap (λ (y : Extent). y.at) (sym same) ∙ g refl)
  first false g f = let none = begins_low (end_of x) xs at a.2 (t x (omega arith)) in cc
begins_is low (x ∷ xs) (suc k) at e a h b t f =
    let past : x.at < at = omega (arith, b 0 x (omega arith), a.1) in
    let later : begins_at xs at ≡ Some e = ap (λ c. cond c (Some x) (begins_at xs at)) (sym (ne_from x.at at past))
    ∙ f in
    let ih =
    begins_is (end_of x) xs k at e a.2 (omega arith) (λ j d l. b (suc j) d (omega arith)) (λ d l. t d (omega arith))
    later in
    (omega (arith, ih.0), ih.1, ih.2)

-- the extent at k is removed
pub remove_apart : (low : ℕ) (es : List Extent) (k : ℕ) → IsApart low es → k < length es → IsApart low (remove es k)
remove_apart low [] k a h = absurd (omega arith)
remove_apart low (e ∷ es) zero a h = lower low (end_of e) es (omega (arith, a.0)) a.2
  where
    lower : (low high : ℕ) (es : List Extent) → low ≤ high → IsApart high es → IsApart low es
    lower low high [] l a = tt
    lower low high (e ∷ es) l a = (omega (arith, a.0), a.1, a.2)
remove_apart low (e ∷ es) (suc k) a h = (a.0, a.1, remove_apart (end_of e) es k a.2 (omega arith))

pub last_end_remove : (es : List Extent) (k : ℕ) (d : Extent) → k < length es
    → last_end es ≡ max (end_of (get_or es k d)) (last_end (remove es k))
last_end_remove [] k d h = absurd (omega arith)
last_end_remove (x ∷ xs) zero d h = refl
last_end_remove (x ∷ xs) (suc k) d h = let e = last_end_remove xs k d (omega arith) in omega (arith, e)

starts_above : (low : ℕ) (es : List Extent) (k : ℕ) (d : Extent) → IsApart low es → k < length es
    → low ≤ (get_or es k d).at
starts_above low [] k d a h = absurd (omega arith)
starts_above low (e ∷ es) zero d a h = a.0
starts_above low (e ∷ es) (suc k) d a h = let s = starts_above (end_of e) es k d a.2 (omega arith) in
    omega (arith, a.0, a.1, s)

take_test : (x y : Bool) (c r s : Option Cell) → (x ≡ true → y ≡ false) → s ≡ cond y None r
    → cond x c s ≡ cond y None (cond x c r)
take_test true y c r s f h = ap (λ b. cond b None c) (sym (f refl))
take_test false y c r s f h = h

pub cover_remove : (low : ℕ) (es : List Extent) (k : ℕ) (d : Extent) (i : ℕ) → IsApart low es → k < length es
    → cover (remove es k) i ≡ cond (is_over (get_or es k d) i) None (cover es i)
cover_remove low [] k d i a h = absurd (omega arith)
cover_remove low (x ∷ xs) zero d i a h = first (is_over x i) (over_from x i) where
  first : (b : Bool) → (b ≡ true → (x.at ≤ i) × (i < end_of x))
      → cover xs i ≡ cond b None (cond b (Some (cell_at x i)) (cover xs i))
  first true f = cover_low (end_of x) xs i a.2 (f refl).1
  first false f = refl
cover_remove low (x ∷ xs) (suc k) d i a h =
    take_test (is_over x i) (is_over (get_or xs k d) i) (Some (cell_at x i)) (cover xs i) (cover (remove xs k) i)
    (λ y. let o = over_from x i y in let s = starts_above (end_of x) xs k d a.2 (omega arith) in
    over_no (get_or xs k d) i (inl (omega (arith, o.1, s))))
    (cover_remove (end_of x) xs k d i a.2 (omega arith))

pub some_begins : (o : Option Extent) → IsSome o → (e : Extent) × (o ≡ Some e)
some_begins None h = cc
some_begins (Some e) h = (e, refl)

cover_over : (low : ℕ) (es : List Extent) (k : ℕ) (d : Extent) (i : ℕ) → IsApart low es → k < length es
    → is_over (get_or es k d) i ≡ true → cover es i ≡ Some (cell_at (get_or es k d) i)
cover_over low [] k d i a h o = absurd (omega arith)
cover_over low (x ∷ xs) zero d i a h o = ap (λ b. cond b (Some (cell_at x i)) (cover xs i)) o
cover_over low (x ∷ xs) (suc k) d i a h o =
    let s = starts_above (end_of x) xs k d a.2 (omega arith) in
    let f = over_from (get_or xs k d) i o in
    cover_no x xs i (inr (omega (arith, s, f.0))) ∙ cover_over (end_of x) xs k d i a.2 (omega arith) o

restored : (b : Bool) (o n : Option Cell) (c : Cell) → n ≡ cond b None o → (b ≡ true → o ≡ Some c)
    → o ≡ cond b (Some c) n
restored true o n c h f = f refl
restored false o n c h f = sym h

pub lacks_remove : (es : List Extent) (k : ℕ) (e : Extent) → IsApart 0 es → k < length es → get_or es k e ≡ e
    → Lacks es e (remove es k)
lacks_remove es k e a h f =
    let gone : (i : ℕ) → cover (remove es k) i ≡ cond (is_over e i) None (cover es i) = λ i. cover_remove 0 es k e i a h
    ∙ ap (λ (x : Extent). cond (is_over x i) None (cover es i)) f in
    record {
      some = let t = some_at 0 es k e a h in omega (arith, t, ap end_of f, ap (λ (x : Extent). x.at) f);
      adds =
          record {
            each = λ i. restored (is_over e i) (cover es i) (cover (remove es k) i) (cell_at e i) (gone i)
                (λ o. cover_over 0 es k e i a h (ap (λ (x : Extent). is_over x i) f ∙ o)
                ∙ ap (λ (x : Extent). Some (cell_at x i)) f);
          };
      gap = λ i o. gone i ∙ ap (λ b. cond b None (cover es i)) o;
    }

-- the gap before the extent at k, or after the last
pub gap_past : (es : List Extent) (k at to : ℕ) → IsApart 0 es → k ≡ length es
    → ((j : ℕ) (d : Extent) → j < k → end_of (get_or es j d) ≤ at) → IsGap es at to
gap_past es k at to a h b = record { each = λ i l m. over_past es k i a h (λ j d n. let t = b j d n in omega arith) }

pub gap_before : (es : List Extent) (k at to : ℕ) (e : Extent) → IsApart 0 es → k ≤ length es
    → ((j : ℕ) (d : Extent) → j < k → end_of (get_or es j d) ≤ at) → e ≡ get_or es k e → to ≤ e.at → IsGap es at to
gap_before es k at to e a h b r t =
    record { each = λ i l m. over_before es k i e a h (λ j d n. let u = b j d n in omega arith) r (omega arith) }

pub some_is : {o : Option Cell} {c : Cell} → o ≡ Some c → IsSome o
some_is {o} {c} h = subst IsSome (sym h) refl

-- the ends of extents rise
pub ends_rise : (low : ℕ) (es : List Extent) (j k : ℕ) (d : Extent) → IsApart low es → j ≤ k → k < length es
    → end_of (get_or es j d) ≤ end_of (get_or es k d)
ends_rise low [] j k d a le h = absurd (omega (arith, h))
ends_rise low (e ∷ es) zero zero d a le h = omega arith
ends_rise low (e ∷ es) zero (suc k) d a le h = let s = starts_above (end_of e) es k d a.2 (omega (arith, h)) in
    omega (arith, s)
ends_rise low (e ∷ es) (suc j) zero d a le h = absurd (omega (arith, le))
ends_rise low (e ∷ es) (suc j) (suc k) d a le h =
    ends_rise (end_of e) es j k d a.2 (omega (arith, le)) (omega (arith, h))

-- The extent over a byte, found like its cover.

pub extent_yes : (e : Extent) (es : List Extent) (i : ℕ) → e.at ≤ i → i < end_of e → extent_over (e ∷ es) i ≡ Some e
extent_yes e es i h k = ap (λ b. cond b (Some e) (extent_over es i)) (over_yes e i h k)

pub extent_no : (e : Extent) (es : List Extent) (i : ℕ) → (i < e.at) ⊎ (end_of e ≤ i)
    → extent_over (e ∷ es) i ≡ extent_over es i
extent_no e es i h = ap (λ b. cond b (Some e) (extent_over es i)) (over_no e i h)

-- the cover of a byte is in the extent over it
pub cover-extent : (es : List Extent) (i : ℕ) (e : Extent) → extent_over es i ≡ Some e → cover es i ≡ Some (cell_at e i)
cover-extent [] i e h = cc
cover-extent (x ∷ xs) i e h = here (is_over x i) h (cover-extent xs i e) where
  here : (b : Bool) → cond b (Some x) (extent_over xs i) ≡ Some e
      → (extent_over xs i ≡ Some e → cover xs i ≡ Some (cell_at e i))
      → cond b (Some (cell_at x i)) (cover xs i) ≡ Some (cell_at e i)
  here true h ih = let same : x ≡ e = cc in ap (λ (y : Extent). Some (cell_at y i)) same
  here false h ih = ih h

pub extent_none : (es : List Extent) (i : ℕ) → cover es i ≡ None → extent_over es i ≡ None
extent_none [] i h = refl
extent_none (x ∷ xs) i h = here (is_over x i) h (extent_none xs i) where
  here : (b : Bool) → cond b (Some (cell_at x i)) (cover xs i) ≡ None → (cover xs i ≡ None → extent_over xs i ≡ None)
      → cond b (Some x) (extent_over xs i) ≡ None
  here true h ih = cc
  here false h ih = ih h

extent_found : (low : ℕ) (es : List Extent) (k i : ℕ) (d : Extent) → IsApart low es → k < length es
    → ((j : ℕ) → j < k → end_of (get_or es j d) ≤ i) → (get_or es k d).at ≤ i → i < end_of (get_or es k d)
    → extent_over es i ≡ Some (get_or es k d)
extent_found low [] k i d a h b f t = absurd (omega arith)
extent_found low (e ∷ es) zero i d a h b f t = extent_yes e es i f t
extent_found low (e ∷ es) (suc k) i d a h b f t = extent_no e es i (inr (b 0 (omega arith)))
    ∙ extent_found (end_of e) es k i d a.2 (omega arith) (λ j l. b (suc j) (omega arith)) f t

pub extent_at : (es : List Extent) (k i : ℕ) (e : Extent) → IsApart 0 es → k < length es
    → ((j : ℕ) (d : Extent) → j < k → end_of (get_or es j d) ≤ i) → e ≡ get_or es k e → e.at ≤ i
    → i < end_of (get_or es k e) → extent_over es i ≡ Some e
extent_at es k i e a h b r f t =
    extent_found 0 es k i e a h (λ j m. b j e m) (omega (arith, ap (λ (x : Extent). x.at) r)) t
    ∙ ap (λ (x : Extent). Some x) (sym r)

none_begins : {o : Option Extent} {e : Extent} → o ≡ None → o ≡ Some e → ⊥
none_begins p q = cc

-- the extent that begins at a place is over it
pub extent_begins : (low : ℕ) (es : List Extent) (at : ℕ) (e : Extent) → IsApart low es → begins_at es at ≡ Some e
    → (extent_over es at ≡ Some e) × (e.at ≡ at)
extent_begins low [] at e a h = cc
extent_begins low (x ∷ xs) at e a h = here (x.at == at) (eq_from x.at at) h (extent_begins (end_of x) xs at e a.2) where
  here : (c : Bool) → (c ≡ true → x.at ≡ at) → cond c (Some x) (begins_at xs at) ≡ Some e
      → (begins_at xs at ≡ Some e → (extent_over xs at ≡ Some e) × (e.at ≡ at)) → (extent_over (x ∷ xs) at ≡ Some e)
      × (e.at ≡ at)
  here true g h ih = let same : x ≡ e = cc in (
    extent_yes x xs at (omega (arith, g refl)) (omega (arith, g refl, a.1)) ∙ ap (λ (y : Extent). Some y) same,
    ap (λ (y : Extent). y.at) (sym same) ∙ g refl,
  )
  here false g h ih = elim (cases_lt at (end_of x)) [
    | inl l ↦ absurd (none_begins (begins_low (end_of x) xs at a.2 l) h)
    | inr l ↦ (extent_no x xs at (inr l) ∙ (ih h).0, (ih h).1)
  ]

-- the last extent has the greatest end
pub last_end-last : (low : ℕ) (es : List Extent) (d : Extent) → IsApart low es → 0 < length es
    → last_end es ≡ end_of (get_or es (length es - 1) d)
last_end-last low [] d a h = absurd (omega (arith, h))
last_end-last low (x ∷ []) d a h = omega (arith, a.1)
last_end-last low (x ∷ y ∷ ys) d a h =
    let ih = last_end-last (end_of x) (y ∷ ys) d a.2 (omega arith) in
    let back : length (x ∷ y ∷ ys) - 1 ≡ suc (length (y ∷ ys) - 1) = omega arith in
    let is : get_or (x ∷ y ∷ ys) (length (x ∷ y ∷ ys) - 1) d ≡ get_or (y ∷ ys) (length (y ∷ ys) - 1) d =
    ap (λ n. get_or (x ∷ y ∷ ys) n d) back in
    let later : end_of x ≤ last_end (y ∷ ys) = omega (arith, a.2.0, a.2.1) in
    omega (arith, ih, ap end_of is, later)

-- if a gap ends before the range does, an extent begins there
pub gap_ends : (es : List Extent) (k from : ℕ) (d : Extent) → IsApart 0 es → k < length es
    → ((j : ℕ) → j < k → end_of (get_or es j d) ≤ from) → from < (get_or es k d).at
    → IsSome (cover es (get_or es k d).at)
gap_ends es k from d a h b f =
    some_is (cover_found 0 es k (get_or es k d).at d a h (λ j l. omega (arith, b j l, f)) (omega arith)
    (some_at 0 es k d a h))
