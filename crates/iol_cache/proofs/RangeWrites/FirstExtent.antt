-- The first dirty extent, which becomes clean in its place.
use Rattle.std.proofs.Common.{◌≡◌, ◌∙◌, ℕ, ◌<◌, Bool, true, false, cond, eqb, List, [], ◌∷◌, Some, IsSome, refl, sym}
use Rattle.std.proofs.Common.{ap, arith, subst}
use Rattle.std.specs.Prelude.{not, ◌&&◌}
use Rattle.std.proofs.lemmas.Bool.Decides.{nat_tests}
use Rattle.std.proofs.lemmas.List.Sums.{sum_by-cons}
use Rattle.iol_hold.specs.Places.{byte_len}
use Rattle.iol_hold.specs.declared.slices.Slice.{Slice}
use Rattle.iol_evict.specs.Order.{Ranking, entered, with_one_given_back}
use Rattle.iol_extent.specs.Extents.{Extent, ExtentMap, IsApart, as_clean, begins_at, cleaned_at, dirty_in, end_of}
use Rattle.iol_extent.specs.Extents.{without_at}
use Rattle.iol_cache.specs.CacheState.{begins_clean, clean_at, parts_in}
use Rattle.iol_cache.specs.Entries.{Enters, MayEnter}
use Rattle.iol_cache.specs.Marks.{Marks}
use Rattle.iol_cache.specs.Replacement.{Reindexes}
use Rattle.iol_cache.specs.WriteBack.{MayReclaim, Reclaims}
use Rattle.iol_cache.proofs.Evictions.Ready.{some_kept}
use Rattle.iol_cache.proofs.Evictions.Orders.{is_some}
use Rattle.iol_cache.proofs.RangeWrites.CleanExtents.{cleaned_put, first_dirty}
use Rattle.iol_cache.proofs.RangeWrites.Replacement.{clean_comes, dirty_goes, reindexes_then}

other : (m n : ℕ) → m < n → eqb m n ≡ false
other m n h = grind (arith, nat_tests)

none_above : (low : ℕ) (es : List Extent) (at : ℕ) → IsApart low es → at < low → clean_at at es ≡ 0
none_above low [] at a h = refl
none_above low (x ∷ xs) at a h =
    omega (
      arith,
      sum_by-cons (begins_clean at) x xs,
      none_above (end_of x) xs at a.2 (omega (arith, h, a.0)),
      ap (λ b. cond {A = ℕ} (b && not x.dirty) 1 0) (apart x.at at (omega (arith, h, a.0))),
    )
  where
    apart : (m n : ℕ) → n < m → eqb m n ≡ false
    apart m n h = grind (arith, nat_tests)

-- no clean extent begins at the place of the first dirty one
pub none_clean : (low : ℕ) (es : List Extent) (e : Extent) → IsApart low es → dirty_in es ≡ Some e
    → clean_at e.at es ≡ 0
none_clean low [] e a h = cc
none_clean low (x ∷ xs) e a h = pick x.dirty refl h (λ k. none_clean (end_of x) xs e a.2 k)
  where
    pick : (b : Bool) → x.dirty ≡ b → cond b (Some x) (dirty_in xs) ≡ Some e
        → (dirty_in xs ≡ Some e → clean_at e.at xs ≡ 0) → clean_at e.at (x ∷ xs) ≡ 0
    pick true is h ih =
        let same : x.at ≡ e.at = ap (λ (z : Extent). z.at) (let s : x ≡ e = cc in s) in
        omega (
          arith,
          sum_by-cons (begins_clean e.at) x xs,
          none_above (end_of x) xs e.at a.2 (omega (arith, same, a.1)),
          ap (λ b. cond {A = ℕ} (eqb x.at e.at && not b) 1 0) is,
          none (eqb x.at e.at),
        )
      where
        none : (b : Bool) → cond {A = ℕ} (b && not true) 1 0 ≡ 0
        none true = refl
        none false = refl
    pick false is h ih =
        let r = (first_dirty (end_of x) xs e a.2 h).2 in
        omega (
          arith,
          sum_by-cons (begins_clean e.at) x xs,
          ih h,
          ap (λ b. cond {A = ℕ} (b && not x.dirty) 1 0) (other x.at e.at (omega (arith, r, a.1))),
        )

module _ {f at : ℕ} {old : ExtentMap} {r : Ranking} {marks : List ℕ} (m : MayReclaim f at old r marks) where
  abbrev es : List Extent
  es = old.extents

  abbrev first : Extent
  first = m.dirty.extent

  begins : begins_at es at ≡ Some first
  begins = ap (begins_at es) (sym m.dirty.begins) ∙ (first_dirty 0 es first m.apart m.dirty.is).0

  pub place_kept : 0 < r.kept
  place_kept = some_kept r es at first begins (first_dirty 0 es first m.apart m.dirty.is).1 m.ready

  pub may_enter : MayEnter f at es (with_one_given_back r) marks
  may_enter = record {
    apart = m.apart;
    begins = subst IsSome (sym begins) refl;
    absent = m.ranked.each at ∙ ap (λ n. clean_at n es) (sym m.dirty.begins) ∙ none_clean 0 es first m.apart m.dirty.is;
    room = omega arith;
    within = m.within;
    few = m.few;
  }

  pub reclaimed : (later : ExtentMap) (t : Ranking) (new : List ℕ) → later.extents ≡ cleaned_at es at
      → IsApart 0 later.extents → Enters f at es (with_one_given_back r) t marks new
      → Reclaims f at old later r t marks new
  reclaimed later t new is apart e =
      let low = with_one_given_back r in
      let parts : parts_in (begins_at es at) ≡ first.parts = ap parts_in begins in
      let order : t ≡ entered low f first.at (byte_len first.parts) 1 =
      e.order ∙ ap (λ (xs : List Slice). entered low f at (byte_len xs) 1) parts
      ∙ ap (λ n. entered low f n (byte_len first.parts) 1) (sym m.dirty.begins) in
      let goes = dirty_goes f es at first r marks begins (first_dirty 0 es first m.apart m.dirty.is).1 place_kept in
      let comes = clean_comes f (without_at es at) (as_clean first) (byte_len first.parts) low marks new refl
      (subst (λ (xs : List Slice). Marks marks new xs) parts e.marks) in
      record {
        extents = is;
        apart = apart;
        follows = subst (λ (q : Ranking). Reindexes f es later.extents r q marks new) (sym order)
            (subst (λ (l : List Extent). Reindexes f es l r (entered low f first.at (byte_len first.parts) 1) marks new)
            (cleaned_put at first 0 es m.apart begins ∙ sym is) (reindexes_then goes comes));
        order = is_some (λ y. t ≡ entered low f y.at (byte_len y.parts) 1) (dirty_in es) first m.dirty.is order;
      }
