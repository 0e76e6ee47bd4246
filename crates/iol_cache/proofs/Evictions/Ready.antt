-- Places of an order that are kept for dirty extents.
use Rattle.std.proofs.Common.{inl, inr, ◌≡◌, ◌∙◌, ℕ, suc, ◌+◌, ◌<◌, ◌≤◌, nat_lt, Bool, true, false, cond, eqb, List, []}
use Rattle.std.proofs.Common.{◌∷◌, ◌++◌, length, get_or, map, Option, Some, None, refl, sym, ap, arith}
use Rattle.std.specs.Prelude.{sum_by}
use Rattle.std.specs.List.{AllZip}
use Rattle.std.proofs.lemmas.Bool.{cases_eq}
use Rattle.std.proofs.lemmas.Bool.Decides.{nat_tests}
use Rattle.std.proofs.lemmas.List.Sums.{sum_by-append, sum_by-cons}
use Rattle.iol_hold.specs.StoreState.{Stored}
use Rattle.iol_hold.specs.Places.{byte_len}
use Rattle.iol_extent.specs.Extents.{Extent, begins_at, extent_over, without_at, dirty_count, one_dirty}
use Rattle.iol_extent.specs.declared.spans.Span.{Span}
use Rattle.iol_evict.specs.Order.{Ranking, entered, entry_or, evicted_at, hit_at, left_at, lowered, lowered_by}
use Rattle.iol_evict.specs.declared.entry.TheConstants.{MAX_LOW}
use Rattle.iol_cache.specs.declared.files.CachedFile.{CachedFile}
use Rattle.iol_cache.specs.CacheState.{AreReady, Cached, dirty_of, extents_in, file_in, lacking, new_file, no_file}
use Rattle.iol_cache.specs.CacheState.{order_in, with_evicted, with_file, with_order, without_extent}
use Rattle.iol_cache.specs.Gaps.{IsMade, all_put}
use Rattle.iol_cache.specs.RangeReads.{SameButRoom, all_entered, hit_counted, hits_counted, parts_from}
use Rattle.iol_cache.specs.Replacement.{Reindexes, IsReady}
use Rattle.iol_cache.proofs.Extents.FileEntries.{order_other, order_same, sum-file_in, sum-with_file, sum-without_at}
use Rattle.iol_cache.proofs.RangeReads.PutExtents.{sum-all_put}

-- Parts of an order that hits, new entries and evictions leave unchanged.

-- a function of the order that no hit changes is unchanged after several hits
pub hits_same : {A : Type 0} (g : Ranking → A) → ((r : Ranking) (f at : ℕ) → g (hit_at r f at) ≡ g r)
    → (r : Ranking) (f : ℕ) (es : List Extent) (ss : List Span) → g (hits_counted r f es ss) ≡ g r
hits_same g one r f es [] = refl
hits_same g one r f es (s ∷ ss) = hits_same g one (hit_counted r f (extent_over es s.from)) f es ss
    ∙ here (extent_over es s.from)
  where
    counted : (d : Bool) (at : ℕ) → g (cond d r (hit_at r f at)) ≡ g r
    counted true at = refl
    counted false at = one r f at

    here : (o : Option Extent) → g (hit_counted r f o) ≡ g r
    here None = refl
    here (Some e) = counted e.dirty e.at

pub hits_kept : (r : Ranking) (f : ℕ) (es : List Extent) (ss : List Span) → (hits_counted r f es ss).kept ≡ r.kept
hits_kept = hits_same (λ r. r.kept) (λ r f at. refl)

pub entered_kept : (r : Ranking) (f : ℕ) (es : List Extent) (ss : List Span) → (all_entered r f es ss).kept ≡ r.kept
entered_kept r f es [] = refl
entered_kept r f es (s ∷ ss) = entered_kept (entered r f s.from (byte_len (parts_from es s)) 1) f es ss

pub entered_low : (r : Ranking) (f : ℕ) (es : List Extent) (ss : List Span) → (all_entered r f es ss).low ≡ r.low
entered_low r f es [] = refl
entered_low r f es (s ∷ ss) = entered_low (entered r f s.from (byte_len (parts_from es s)) 1) f es ss

lowered_kept : (r : Ranking) → (lowered r).kept ≡ r.kept
lowered_kept r = pick (nat_lt MAX_LOW r.low) where
  pick : (b : Bool)
      → (cond b (let x : Ranking = record r { low = 0; entries = map (lowered_by r.low) r.entries } in x) r).kept
      ≡ r.kept
  pick true = refl
  pick false = refl

pub evicted_kept : (r : Ranking) (f at : ℕ) → (evicted_at r f at).kept ≡ r.kept
evicted_kept r f at = lowered_kept (record (left_at r f at) { low = (entry_or r.entries f at).height })

-- Dirty extents of a pool's files.

in_pool : (p q n : ℕ) → q ≡ p → cond {A = ℕ} (eqb p q) n 0 ≡ n
in_pool p q n is = grind (arith, nat_tests, is)

not_in : (p q n : ℕ) → (q ≡ p → ⊥) → cond {A = ℕ} (eqb p q) n 0 ≡ 0
not_in p q n ne = grind (arith, nat_tests, ne)

none_of : (b : Bool) → cond {A = ℕ} b 0 0 ≡ 0
none_of true = refl
none_of false = refl

-- One file and its order changed, and the order keeps as many places more or fewer as there are dirty extents.
pub ready_changed : (fs : List CachedFile) (os : List Ranking) (f : ℕ) (x : CachedFile) (r : Ranking)
    → (0 < f) × (f ≤ length fs) → (0 < (file_in fs f).pool) × ((file_in fs f).pool ≤ length os)
    → x.pool ≡ (file_in fs f).pool
    → r.kept + dirty_count (extents_in fs f) ≡ (order_in os (file_in fs f).pool).kept + dirty_count x.extents.extents
    → AreReady fs os → AreReady (with_file fs f x) (with_order os (file_in fs f).pool r)
ready_changed fs os f x r numbered ordered pool kept ready = record {
  each = λ q.
      let p = (file_in fs f).pool in
      let sums = sum-with_file (dirty_of q) fs f x numbered.0 numbered.1 in
      let is : dirty_of q x ≡ cond {A = ℕ} (eqb p q) (dirty_count x.extents.extents) 0 =
      ap (λ n. cond {A = ℕ} (eqb n q) (dirty_count x.extents.extents) 0) pool in
      elim (cases_eq q p) [
        | inl same ↦ omega (
          arith,
          sums,
          is,
          kept,
          ready.each q,
          ap (λ n. (order_in os n).kept) same,
          ap (λ n. (order_in (with_order os p r) n).kept) same,
          ap (λ (y : Ranking). y.kept) (order_same os p r ordered.0 ordered.1),
          in_pool p q (dirty_count x.extents.extents) same,
          in_pool p q (dirty_count (extents_in fs f)) same,
        )
        | inr ne ↦ omega (
          arith,
          sums,
          is,
          ready.each q,
          ap (λ (y : Ranking). y.kept) (order_other os p q r ne),
          not_in p q (dirty_count x.extents.extents) ne,
          not_in p q (dirty_count (extents_in fs f)) ne,
        )
      ];
}

-- Files that have the same extents.

sums_alike : (w : CachedFile → ℕ) (xs ys : List CachedFile) → length ys ≡ length xs
    → ((i : ℕ) → w (get_or ys i no_file) ≡ w (get_or xs i no_file)) → sum_by w ys ≡ sum_by w xs
sums_alike w [] [] long each = refl
sums_alike w [] (y ∷ ys) long each = absurd (omega (arith, long))
sums_alike w (x ∷ xs) [] long each = absurd (omega (arith, long))
sums_alike w (x ∷ xs) (y ∷ ys) long each =
    omega (
      arith,
      sum_by-cons w x xs,
      sum_by-cons w y ys,
      each 0,
      sums_alike w xs ys (omega (arith, long)) (λ i. each (suc i)),
    )

pub at_index : (fs : List CachedFile) (i : ℕ) → file_in fs (i + 1) ≡ get_or fs i no_file
unfolding file_in
at_index fs i = let some : i + 1 ≡ 0 → ⊥ = λ e. absurd (omega (arith, e)) in grind (arith, nat_tests, some)

pub ready_same : (c d : Cached) → SameButRoom c d → AreReady c.files c.orders → AreReady d.files d.orders
ready_same c d same ready =
    record {
      each =
          λ p. omega (arith, same.kept p, ready.each p, sums_alike (dirty_of p) c.files d.files same.files (alike p));
    }
  where
    alike : (p i : ℕ) → dirty_of p (get_or d.files i no_file) ≡ dirty_of p (get_or c.files i no_file)
    alike p i = ap (dirty_of p) (sym (at_index d.files i))
        ∙ ap (λ n. cond {A = ℕ} (eqb n p) (dirty_count (extents_in d.files (i + 1))) 0) (same.pools (i + 1))
        ∙ ap (λ (es : List Extent). cond {A = ℕ} (eqb (file_in c.files (i + 1)).pool p) (dirty_count es) 0)
        (same.extents (i + 1))
        ∙ ap (dirty_of p) (at_index c.files i)

-- hits were counted
pub ready_hits : (fs : List CachedFile) (os : List Ranking) (p : ℕ) (r : Ranking) → (0 < p) × (p ≤ length os)
    → r.kept ≡ (order_in os p).kept → AreReady fs os → AreReady fs (with_order os p r)
ready_hits fs os p r ordered kept ready = record {
  each = λ q. elim (cases_eq q p) [
    | inl same ↦
        omega (
          arith,
          ready.each q,
          kept,
          ap (λ n. (order_in os n).kept) same,
          ap (λ n. (order_in (with_order os p r) n).kept) same,
          ap (λ (y : Ranking). y.kept) (order_same os p r ordered.0 ordered.1),
        )
    | inr ne ↦ omega (arith, ready.each q, ap (λ (y : Ranking). y.kept) (order_other os p q r ne))
  ];
}

-- a file without extents was added
pub ready_pushed : (fs : List CachedFile) (os ps : List Ranking) (p : ℕ) → ((q : ℕ) → order_in ps q ≡ order_in os q)
    → AreReady fs os → AreReady (fs ++ new_file p ∷ []) ps
ready_pushed fs os ps p orders ready = record {
  each = λ q. omega (
    arith,
    ready.each q,
    ap (λ (r : Ranking). r.kept) (orders q),
    sum_by-append (dirty_of q) fs (new_file p ∷ []),
    sum_by-cons (dirty_of q) (new_file p) [],
    none_of (eqb p q),
  );
}

-- Clean extents are removed or put in.

clean_one : (e : Extent) → e.dirty ≡ false → one_dirty e ≡ 0
clean_one e clean = ap (λ b. cond {A = ℕ} b 1 0) clean

pub dirty-without : (es : List Extent) (at : ℕ) (e : Extent) → begins_at es at ≡ Some e → e.dirty ≡ false
    → dirty_count (without_at es at) ≡ dirty_count es
dirty-without es at e begins clean = omega (arith, sum-without_at one_dirty es at e begins, clean_one e clean)

pub dirty-all_put : (s t : Stored) (p : ℕ) (es : List Extent) (gs : List Span) (made : List Extent)
    → AllZip (IsMade s t p) gs made → dirty_count (all_put es made) ≡ dirty_count es
dirty-all_put s t p es gs made zip = omega (arith, sum-all_put one_dirty es made, none gs made zip)
  where
    none : (gs : List Span) (made : List Extent) → AllZip (IsMade s t p) gs made → dirty_count made ≡ 0
    none [] [] zip = refl
    none [] (e ∷ made) zip = absurd zip
    none (g ∷ gs) [] zip = absurd zip
    none (g ∷ gs) (e ∷ made) zip =
        omega (arith, sum_by-cons one_dirty e made, clean_one e zip.0.clean, none gs made zip.1)

pub ready_evicted : (fs : List CachedFile) (os : List Ranking) (f at : ℕ) (e : Extent) → (0 < f) × (f ≤ length fs)
    → (0 < (file_in fs f).pool) × ((file_in fs f).pool ≤ length os) → begins_at (extents_in fs f) at ≡ Some e
    → e.dirty ≡ false
    → AreReady fs os → AreReady (without_extent fs f at) (with_evicted os (file_in fs f).pool f at)
ready_evicted fs os f at e numbered ordered begins clean ready =
    let r = order_in os (file_in fs f).pool in
    ready_changed fs os f (lacking (file_in fs f) at) (evicted_at r f at) numbered ordered refl
    (omega (arith, evicted_kept r f at, dirty-without (extents_in fs f) at e begins clean)) ready

-- The order of a file's pool keeps a place for each of its dirty extents.

pub is_ready : (fs : List CachedFile) (os : List Ranking) (f : ℕ) → AreReady fs os
    → IsReady (order_in os (file_in fs f).pool) (extents_in fs f)
is_ready fs os f ready =
    let p = (file_in fs f).pool in
    record {
      enough =
          omega (
            arith,
            ready.each p,
            sum-file_in (dirty_of p) fs f (none_of (eqb 0 p)),
            in_pool p p (dirty_count (extents_in fs f)) refl,
          );
    }

pub ready_after : {f : ℕ} {es fs : List Extent} {r t : Ranking} {marks new : List ℕ} → Reindexes f es fs r t marks new
    → IsReady r es → IsReady t fs
ready_after m h = record { enough = omega (arith, m.kept, h.enough) }

-- the order keeps a place for a dirty extent
pub some_kept : (r : Ranking) (es : List Extent) (at : ℕ) (e : Extent) → begins_at es at ≡ Some e → e.dirty ≡ true
    → IsReady r es → 0 < r.kept
some_kept r es at e begins dirty h =
    omega (arith, h.enough, sum-without_at one_dirty es at e begins, ap (λ b. cond {A = ℕ} b 1 0) dirty)
