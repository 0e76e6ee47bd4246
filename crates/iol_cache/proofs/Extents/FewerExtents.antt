-- Extents of a file, with one fewer.
use Rattle.std.proofs.Common.{inl, inr, ◌≡◌, ◌⊎◌, ℕ, ◌-◌, ◌<◌, ◌≤◌, ◌==◌, Bool, true, false, cond, eqb, List, [], ◌∷◌}
use Rattle.std.specs.List.{AllByRecursion}
use Rattle.std.proofs.Common.{length, get_or, max, Some, None, refl, sym, ap, ◌∙◌, arith, subst}
use Rattle.std.specs.Prelude.{not, ◌&&◌}
use Rattle.std.proofs.lemmas.Bool.Decides.{nat_tests}
use Rattle.std.proofs.lemmas.List.{get_or-map}
use Rattle.std.proofs.lemmas.List.Sums.{sum_by-cons}
use Rattle.iol_core.specs.declared.numbers.BufId.{BufId}
use Rattle.iol_hold.specs.StoreState.{Stored}
use Rattle.iol_hold.specs.Moves.{Stays, Covers, tally}
use Rattle.iol_hold.specs.Places.{places, byte_len}
use Rattle.iol_hold.specs.Texts.{byte_at, bufs_of}
use Rattle.iol_hold.proofs.Counts.{tally-append, bufs-append}
use Rattle.iol_hold.proofs.ReadSlices.{readable_stays, text_stays}
use Rattle.iol_extent.specs.Extents.{Extent, Cell, no_place, cover, cell_at, is_over, end_of, IsApart, last_end}
use Rattle.iol_extent.specs.Extents.{begins_at, without_at}
use Rattle.iol_extent.proofs.Cover.{cover_low, cover_no, cover_yes}
use Rattle.iol_cache.specs.CacheState.{all_parts, begins_clean, clean_at}
use Rattle.iol_cache.specs.Contents.{byte_in}
use Rattle.iol_cache.specs.Sound.{IsLaid}

pub eq_of : (m n : ℕ) → (m == n) ≡ true → m ≡ n
eq_of m n h = grind (arith, nat_tests)

pub over_of : (e : Extent) (i : ℕ) → is_over e i ≡ true → (e.at ≤ i) × (i < end_of e)
over_of e i h = (grind (arith, nat_tests), grind (arith, nat_tests))

pub over_yes : (e : Extent) (i : ℕ) → e.at ≤ i → i < end_of e → is_over e i ≡ true
over_yes e i h k = grind (arith, nat_tests)

pub over_not : (e : Extent) (i : ℕ) → (i < e.at) ⊎ (end_of e ≤ i) → is_over e i ≡ false
over_not e i (inl h) = below e i h where
  below : (e : Extent) (i : ℕ) → i < e.at → is_over e i ≡ false
  below e i h = grind (arith, nat_tests)
over_not e i (inr h) = above e i h where
  above : (e : Extent) (i : ℕ) → end_of e ≤ i → is_over e i ≡ false
  above e i h = grind (arith, nat_tests)

lower : (low high : ℕ) (es : List Extent) → low ≤ high → IsApart high es → IsApart low es
lower low high [] l a = tt
lower low high (e ∷ es) l a = (omega (arith, a.0), a.1, a.2)

pub apart-without_at : (low : ℕ) (es : List Extent) (at : ℕ) → IsApart low es → IsApart low (without_at es at)
apart-without_at low [] at a = tt
apart-without_at low (x ∷ xs) at a = here (x.at == at) (apart-without_at (end_of x) xs at a.2) where
  here : (c : Bool) → IsApart (end_of x) (without_at xs at) → IsApart low (cond c xs (x ∷ without_at xs at))
  here true ih = lower low (end_of x) xs (omega (arith, a.0)) a.2
  here false ih = (a.0, a.1, ih)

-- where it begins, and that it is not empty
pub begins_above : (low : ℕ) (es : List Extent) (at : ℕ) (e : Extent) → IsApart low es → begins_at es at ≡ Some e
    → (low ≤ e.at) × (e.at ≡ at) × (0 < byte_len e.parts)
begins_above low [] at e a h = absurd cc
begins_above low (x ∷ xs) at e a h = here (x.at == at) (eq_of x.at at) h (begins_above (end_of x) xs at e a.2) where
  here : (c : Bool) → (c ≡ true → x.at ≡ at) → cond c (Some x) (begins_at xs at) ≡ Some e
      → (begins_at xs at ≡ Some e → (end_of x ≤ e.at) × (e.at ≡ at) × (0 < byte_len e.parts))
      → (low ≤ e.at) × (e.at ≡ at) × (0 < byte_len e.parts)
  here true g h ih = let same : x ≡ e = cc in let P : Extent → Type 0 = λ y. (low ≤ y.at) × (y.at ≡ at)
      × (0 < byte_len y.parts) in subst P same (a.0, g refl, a.1)
  here false g h ih = let r = ih h in (omega (arith, r.0, a.0, a.1), r.1, r.2)

pub cover-without_at : (low : ℕ) (es : List Extent) (at : ℕ) (e : Extent) (i : ℕ) → IsApart low es
    → begins_at es at ≡ Some e → cover (without_at es at) i ≡ cond (is_over e i) None (cover es i)
cover-without_at low [] at e i a h = absurd cc
cover-without_at low (x ∷ xs) at e i a h =
    here (x.at == at) h (λ k. cover-without_at (end_of x) xs at e i a.2 k)
    (λ k. (begins_above (end_of x) xs at e a.2 k).0) where
      first : (b : Bool) → is_over x i ≡ b → cover xs i ≡ cond b None (cond b (Some (cell_at x i)) (cover xs i))
      first true is = cover_low (end_of x) xs i a.2 (over_of x i is).1
      first false is = refl

      rest : (b : Bool) → is_over x i ≡ b → end_of x ≤ e.at
          → cover (without_at xs at) i ≡ cond (is_over e i) None (cover xs i)
          → cond b (Some (cell_at x i)) (cover (without_at xs at) i)
          ≡ cond (is_over e i) None (cond b (Some (cell_at x i)) (cover xs i))
      rest true is past ih =
          ap (λ c. cond c None (Some (cell_at x i)))
          (sym (over_not e i (inl (omega (arith, (over_of x i is).1, past)))))
      rest false is past ih = ih

      here : (c : Bool) → cond c (Some x) (begins_at xs at) ≡ Some e
          → (begins_at xs at ≡ Some e → cover (without_at xs at) i ≡ cond (is_over e i) None (cover xs i))
          → (begins_at xs at ≡ Some e → end_of x ≤ e.at)
          → cover (cond c xs (x ∷ without_at xs at)) i ≡ cond (is_over e i) None (cover (x ∷ xs) i)
      here true h ih past = let same : x ≡ e = cc in first (is_over x i) refl
          ∙ ap (λ (y : Extent). cond (is_over y i) None (cover (x ∷ xs) i)) same
      here false h ih past = rest (is_over x i) refl (past h) (ih h)

-- each byte of an extent is covered by that extent
pub cover-begins : (low : ℕ) (es : List Extent) (at : ℕ) (e : Extent) (i : ℕ) → IsApart low es
    → begins_at es at ≡ Some e → is_over e i ≡ true → cover es i ≡ Some (cell_at e i)
cover-begins low [] at e i a h o = absurd cc
cover-begins low (x ∷ xs) at e i a h o =
    here (x.at == at) h (λ k. cover-begins (end_of x) xs at e i a.2 k o)
    (λ k. (begins_above (end_of x) xs at e a.2 k).0) where
      here : (c : Bool) → cond c (Some x) (begins_at xs at) ≡ Some e
          → (begins_at xs at ≡ Some e → cover xs i ≡ Some (cell_at e i)) → (begins_at xs at ≡ Some e → end_of x ≤ e.at)
          → cover (x ∷ xs) i ≡ Some (cell_at e i)
      here true h ih past = let same : x ≡ e = cc in let b = over_of e i o in
          let P : Extent → Type 0 = λ y. cover (y ∷ xs) i ≡ Some (cell_at e i) in
          subst P (sym same) (cover_yes e xs i b.0 b.1)
      here false h ih past = let b = over_of e i o in cover_no x xs i (inr (omega (arith, past h, b.0))) ∙ ih h

pub last_end-without_at : (es : List Extent) (at : ℕ) (e : Extent) → begins_at es at ≡ Some e
    → last_end es ≡ max (end_of e) (last_end (without_at es at))
last_end-without_at [] at e h = absurd cc
last_end-without_at (x ∷ xs) at e h = here (x.at == at) h (last_end-without_at xs at e) where
  here : (c : Bool) → cond c (Some x) (begins_at xs at) ≡ Some e
      → (begins_at xs at ≡ Some e → last_end xs ≡ max (end_of e) (last_end (without_at xs at)))
      → max (end_of x) (last_end xs) ≡ max (end_of e) (last_end (cond c xs (x ∷ without_at xs at)))
  here true h ih = let same : x ≡ e = cc in ap (λ (y : Extent). max (end_of y) (last_end xs)) same
  here false h ih = omega (arith, ih h)

-- a clean extent that begins at a place is the one that is found there
pub clean_begins : (low : ℕ) (es : List Extent) (at : ℕ) → IsApart low es → 0 < clean_at at es
    → (e : Extent) × (begins_at es at ≡ Some e) × (e.dirty ≡ false)
clean_begins low [] at a h = absurd (omega (arith, h))
clean_begins low (x ∷ xs) at a h = here (eqb x.at at) refl (clean_begins (end_of x) xs at a.2) where
  none_low : (low : ℕ) (es : List Extent) → IsApart low es → at < low → clean_at at es ≡ 0
  none_low low [] a l = refl
  none_low low (y ∷ ys) a l = sum_by-cons (begins_clean at) y ys
      ∙ omega (
        arith,
        ap (λ b. cond {A = ℕ} (b && not y.dirty) 1 0) (ne_of y.at at (omega (arith, a.0, l))),
        none_low (end_of y) ys a.2 (omega (arith, a.0, a.1, l)),
      )
    where
      ne_of : (m n : ℕ) → n < m → eqb m n ≡ false
      ne_of m n h = grind (arith, nat_tests)

  one : (b d : Bool) → x.dirty ≡ d → eqb x.at at ≡ b → 0 < cond {A = ℕ} (b && not d) 1 0 → d ≡ false
  one true false is at_is h = refl
  one true true is at_is h = absurd (omega (arith, h))
  one false d is at_is h = absurd (omega (arith, h))

  here : (c : Bool) → eqb x.at at ≡ c
      → (0 < clean_at at xs → (e : Extent) × (begins_at xs at ≡ Some e) × (e.dirty ≡ false))
      → (e : Extent) × (cond (x.at == at) (Some x) (begins_at xs at) ≡ Some e) × (e.dirty ≡ false)
  here true is ih =
      let at_is : x.at ≡ at = eq_of x.at at is in
      let none = none_low (end_of x) xs a.2 (omega (arith, at_is, a.1)) in
      let some : 0 < begins_clean at x = omega (arith, sum_by-cons (begins_clean at) x xs, none, h) in
      (x, ap (λ b. cond b (Some x) (begins_at xs at)) is, one (eqb x.at at) x.dirty refl refl some)
  here false is ih =
      let none : begins_clean at x ≡ 0 = ap (λ b. cond {A = ℕ} (b && not x.dirty) 1 0) is in
      let r = ih (omega (arith, sum_by-cons (begins_clean at) x xs, none, h)) in
      (r.0, ap (λ b. cond b (Some x) (begins_at xs at)) is ∙ r.1, r.2)

-- A step of the store after which all held buffers have their bytes.

covers_parts : {t : Stored} (x : Extent) (xs : List Extent) → Covers t (bufs_of (all_parts (x ∷ xs)))
    → Covers t (bufs_of x.parts) × Covers t (bufs_of (all_parts xs))
covers_parts {t = t} x xs c =
    let each = λ (b : BufId). ap (tally b) (bufs-append x.parts (all_parts xs))
    ∙ tally-append b (bufs_of x.parts) (bufs_of (all_parts xs)) in
    (record { each = λ b. omega (arith, c.each b, each b) }, record { each = λ b. omega (arith, c.each b, each b) })

pub laid_stays : {s t : Stored} (p : ℕ) (es : List Extent) → Stays s t → Covers t (bufs_of (all_parts es))
    → AllByRecursion (IsLaid s p) es → AllByRecursion (IsLaid t p) es
laid_stays p [] stays c all = tt
laid_stays p (x ∷ xs) stays c all =
    let both = covers_parts x xs c in (
      record { readable = readable_stays x.parts stays both.0 all.0.readable; home = all.0.home },
      laid_stays p xs stays both.1 all.1,
    )

-- each byte under an extent is unchanged
pub byte_stays : {s t : Stored} (p : ℕ) (es : List Extent) (i : ℕ) (c : Cell) → Stays s t
    → Covers t (bufs_of (all_parts es)) → AllByRecursion (IsLaid s p) es → cover es i ≡ Some c
    → byte_in t c.place ≡ byte_in s c.place
byte_stays p [] i c stays cov all h = absurd cc
byte_stays {s = s} {t = t} p (x ∷ xs) i c stays cov all h =
    here (is_over x i) refl h (byte_stays p xs i c stays (covers_parts x xs cov).1 all.1) where
      one : is_over x i ≡ true → byte_in t (cell_at x i).place ≡ byte_in s (cell_at x i).place
      one is =
          let b = over_of x i is in
          let k = i - x.at in
          let small : k < length (places x.parts) = omega (arith, b.0, b.1) in
          let same = text_stays x.parts stays (covers_parts x xs cov).0 all.0.readable in
          let q : ℕ × ℕ = (0, 0) in
          ap (λ (y : ℕ × ℕ). y.0) (sym (get_or-map (byte_at t) (places x.parts) k no_place q small)
          ∙ ap (λ (l : List (ℕ × ℕ)). get_or l k q) same ∙ get_or-map (byte_at s) (places x.parts) k no_place q small)

      here : (b : Bool) → is_over x i ≡ b → cond b (Some (cell_at x i)) (cover xs i) ≡ Some c
          → (cover xs i ≡ Some c → byte_in t c.place ≡ byte_in s c.place) → byte_in t c.place ≡ byte_in s c.place
      here true is h ih = let same : cell_at x i ≡ c = cc in
          subst (λ (y : Cell). byte_in t y.place ≡ byte_in s y.place) same (one is)
      here false is h ih = ih h
