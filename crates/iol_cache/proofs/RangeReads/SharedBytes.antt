-- Bytes of a file, shared from the extents over them.
use Rattle.std.proofs.Common.{◌≡◌, ℕ, zero, suc, ◌+◌, ◌-◌, ◌/◌, ◌^◌, ◌<◌, ◌≤◌, inr, Bool, true, false, cond, All, List}
use Rattle.std.proofs.Common.{[], ◌∷◌, ◌++◌, length, map, take, drop, get_or, Option, Some, None, IsSome, Ok, Err}
use Rattle.std.proofs.Common.{slice_range, refl, sym, ap, ◌∙◌, arith, subst}
use Rattle.std.specs.List.{Contains, range_with_len}
use Rattle.std.proofs.lemmas.List.Elements.{All-append, All-same}
use Rattle.std.proofs.lemmas.List.FromFn.{get_or-map-range_with_len, length-map-range_with_len}
use Rattle.std.proofs.lemmas.Bool.Decides.{nat_tests}
use Rattle.std.proofs.lemmas.List.{take_at, drop_at, map-append}
use Rattle.std.proofs.Math.Seq.{drop-cons}
use Rattle.iol_core.specs.declared.numbers.BufId.{BufId}
use Rattle.iol_extent.specs.Extents.{Cell, Extent, IsApart, cell_at, cover, end_of, extent_over, is_over, no_place}
use Rattle.iol_extent.proofs.Cover.{cover_no, cover_yes}
use Rattle.iol_hold.specs.Moves.{Covers, Moves, SameLists, Shares, pool_meant, tally}
use Rattle.iol_hold.specs.Places.{Place, byte_len, places}
use Rattle.iol_hold.specs.Releases.{FreesOnly}
use Rattle.iol_hold.specs.StoreState.{Stored, AllReclaimed}
use Rattle.iol_hold.specs.Texts.{AllReadable, IsThere, bufs_of}
use Rattle.iol_hold.specs.declared.slices.Slice.{Slice}
use Rattle.iol_hold.proofs.Counts.{bufs-append, tally-append, tally_none}
use Rattle.iol_hold.proofs.EmptyPools.{all_reclaimed_same}
use Rattle.iol_hold.proofs.Moves.{stays_trans, shares_move}
use Rattle.iol_hold.proofs.ReadSlices.{readable_taken, readable_rest}
use Rattle.iol_hold.proofs.Releases.{frees_trans}
use Rattle.iol_hold.proofs.SlicePlaces.{places-append, range_with_len_split}
use Rattle.iol_arena.specs.Buffers.{IsLive, bytes_of}
use Rattle.iol_arena.specs.State.{State}
use Rattle.iol_pool.specs.Pools.{Pool, pool_in}
use Rattle.iol_cache.specs.CacheState.{all_parts}
use Rattle.iol_cache.specs.SharedBytes.{AreHeld, CountsBelow, IsCovered, MayShare, SharesOrReleases, place_in}
use Rattle.iol_cache.specs.SharedBytes.{place_over, places_over}
use Rattle.iol_cache.proofs.RangeReads.PageChanges.{frees_shares}

over_from : (e : Extent) (i : ℕ) → is_over e i ≡ true → (e.at ≤ i) × (i < end_of e)
over_from e i h = (grind (arith, nat_tests), grind (arith, nat_tests))

not_over : (e : Extent) (i : ℕ) → is_over e i ≡ false → e.at ≤ i → end_of e ≤ i
not_over e i h le = grind (arith, nat_tests)

some_is : (o : Option Extent) → IsSome o → (e : Extent) × (o ≡ Some e)
some_is None h = cc
some_is (Some e) h = (e, refl)

-- the extent over a byte has it
pub over_at : (es : List Extent) (i : ℕ) (e : Extent) → extent_over es i ≡ Some e → (e.at ≤ i) × (i < end_of e)
over_at [] i e h = cc
over_at (x ∷ xs) i e h = here (is_over x i) (over_from x i) h (over_at xs i e) where
  here : (b : Bool) → (b ≡ true → (x.at ≤ i) × (i < end_of x)) → cond b (Some x) (extent_over xs i) ≡ Some e
      → (extent_over xs i ≡ Some e → (e.at ≤ i) × (i < end_of e)) → (e.at ≤ i) × (i < end_of e)
  here true f h ih = let same : x ≡ e = cc in subst (λ (y : Extent). (y.at ≤ i) × (i < end_of y)) same (f refl)
  here false f h ih = ih h

pub over_low : (low : ℕ) (es : List Extent) (i : ℕ) (e : Extent) → IsApart low es → extent_over es i ≡ Some e
    → low ≤ e.at
over_low low [] i e a h = cc
over_low low (x ∷ xs) i e a h = here (is_over x i) h (over_low (end_of x) xs i e a.2) where
  here : (b : Bool) → cond b (Some x) (extent_over xs i) ≡ Some e → (extent_over xs i ≡ Some e → end_of x ≤ e.at)
      → low ≤ e.at
  here true h ih = let same : x ≡ e = cc in subst (λ (y : Extent). low ≤ y.at) same a.0
  here false h ih = omega (arith, ih h, a.0)

-- and it is over all its bytes
pub over_all : (low : ℕ) (es : List Extent) (at : ℕ) (e : Extent) → IsApart low es → extent_over es at ≡ Some e
    → (i : ℕ) → e.at ≤ i → i < end_of e → cover es i ≡ Some (cell_at e i)
over_all low [] at e a h i lo hi = cc
over_all low (x ∷ xs) at e a h i lo hi = here (is_over x at) h (λ t. over_all (end_of x) xs at e a.2 t i lo hi) where
  here : (b : Bool) → cond b (Some x) (extent_over xs at) ≡ Some e
      → (extent_over xs at ≡ Some e → cover xs i ≡ Some (cell_at e i)) → cover (x ∷ xs) i ≡ Some (cell_at e i)
  here true h ih = let same : x ≡ e = cc in
      subst (λ (y : Extent). cover (x ∷ xs) i ≡ Some (cell_at y i)) same
      (cover_yes x xs i (omega (arith, lo, ap (λ (y : Extent). y.at) same)) (omega (arith, hi, ap end_of same)))
  here false h ih = let low2 = over_low (end_of x) xs at e a.2 h in cover_no x xs i (inr (omega (arith, low2, lo)))
      ∙ ih h

-- its slices are among those of all
pub over_tally : (es : List Extent) (i : ℕ) (e : Extent) → extent_over es i ≡ Some e → (b : BufId)
    → tally b (bufs_of e.parts) ≤ tally b (bufs_of (all_parts es))
over_tally [] i e h b = cc
over_tally (x ∷ xs) i e h b = here (is_over x i) h (λ t. over_tally xs i e t b) where
  both : tally b (bufs_of (all_parts (x ∷ xs))) ≡ tally b (bufs_of x.parts) + tally b (bufs_of (all_parts xs))
  both = ap (tally b) (bufs-append x.parts (all_parts xs)) ∙ tally-append b (bufs_of x.parts) (bufs_of (all_parts xs))

  here : (c : Bool) → cond c (Some x) (extent_over xs i) ≡ Some e
      → (extent_over xs i ≡ Some e → tally b (bufs_of e.parts) ≤ tally b (bufs_of (all_parts xs)))
      → tally b (bufs_of e.parts) ≤ tally b (bufs_of (all_parts (x ∷ xs)))
  here true h ih = let same : x ≡ e = cc in omega (arith, both, ap (λ (y : Extent). tally b (bufs_of y.parts)) same)
  here false h ih = omega (arith, both, ih h)

pub readable_parts : {s : Stored} (xs ys : List Slice) → AllReadable s (xs ++ ys) → AllReadable s xs × AllReadable s ys
readable_parts xs ys h =
    let e = places-append xs ys in
    let n = length (places xs) in (
      readable_taken xs (xs ++ ys) n (sym (ap (take n) e ∙ take_at (places xs) (places ys) n refl)) h,
      readable_rest ys (xs ++ ys) n (sym (ap (drop n) e ∙ drop_at (places xs) (places ys) n refl)) h,
    )

pub over_readable : {s : Stored} (es : List Extent) (i : ℕ) (e : Extent) → extent_over es i ≡ Some e
    → AllReadable s (all_parts es) → AllReadable s e.parts
over_readable {s} [] i e h all = cc
over_readable {s} (x ∷ xs) i e h all =
    here (is_over x i) h (readable_parts {s = s} x.parts (all_parts xs) all) (λ t r. over_readable {s = s} xs i e t r)
  where
    here : (c : Bool) → cond c (Some x) (extent_over xs i) ≡ Some e
        → AllReadable s x.parts × AllReadable s (all_parts xs)
        → (extent_over xs i ≡ Some e → AllReadable s (all_parts xs) → AllReadable s e.parts) → AllReadable s e.parts
    here true h both ih = let same : x ≡ e = cc in subst (λ (y : Extent). AllReadable s y.parts) same both.0
    here false h both ih = ih h both.1

-- the elements at a range of indices, as a part of the list
run_of : (ps : List Place) (d : Place) (f : ℕ → Place) (b a n : ℕ) → b ≤ a → (a - b) + n ≤ length ps
    → ((i : ℕ) → a ≤ i → i < a + n → f i ≡ get_or ps (i - b) d) → map f (range_with_len a n) ≡ take n (drop (a - b) ps)
run_of ps d f b a zero le fits each = refl
run_of ps d f b a (suc n) le fits each =
    let next : (a + 1) - b ≡ suc (a - b) = omega (arith, le) in
    let rest : map f (range_with_len (a + 1) n) ≡ take n (drop (suc (a - b)) ps) =
    run_of ps d f b (a + 1) n (omega (arith, le)) (omega (arith, fits, le))
    (λ i lo hi. each i (omega (arith, lo)) (omega (arith, hi))) ∙ ap (λ k. take n (drop k ps)) next in
    let here : f a ≡ get_or ps (a - b) d = each a (omega arith) (omega arith) in
    ap (λ l. f a ∷ l) rest ∙ ap (λ x. x ∷ take n (drop (suc (a - b)) ps)) here
    ∙ ap (take (suc n)) (sym (drop-cons ps (a - b) d (omega (arith, fits))))

pub run_over : (es : List Extent) (at n : ℕ) (e : Extent) → IsApart 0 es → extent_over es at ≡ Some e
    → at + n ≤ end_of e → places_over es at (at + n) ≡ slice_range (places e.parts) (at - e.at) ((at - e.at) + n)
run_over es at n e apart over fits =
    let has = over_at es at e over in
    let f = place_over es in
    let a : at + n - at ≡ n = omega arith in
    let b : ((at - e.at) + n) - (at - e.at) ≡ n = omega arith in
    ap (λ k. map f (range_with_len at k)) a
    ∙ run_of (places e.parts) no_place f e.at at n has.0 (omega (arith, fits, has.0))
    (λ i lo hi. ap place_of (over_all 0 es at e apart over i (omega (arith, lo, has.0)) (omega (arith, hi, fits))))
    ∙ ap (λ k. take k (drop (at - e.at) (places e.parts))) (sym b)
  where
    place_of : Option Cell → Place
    place_of None = no_place
    place_of (Some c) = c.place

-- Stores whose pages are the same.

pub readable_same : (s t : Stored) (xs : List Slice) → t.arena ≡ s.arena → t.pools ≡ s.pools → AllReadable s xs
    → AllReadable t xs
readable_same s t xs arena pools h = record {
  each = λ k d within. (let there = h.each k d within in
      let p = get_or (places xs) k d in
      record {
        live = subst (λ (a : State). IsLive a p.buf) (sym arena) there.live;
        home = subst (λ (ps : List Pool). Contains (pool_in ps p.pool).chunks (p.buf.page / 16)) (sym pools) there.home;
        within = subst (λ (a : State). p.at < length (bytes_of a p.buf)) (sym arena) there.within;
      });
}

pub readable_on : {s t : Stored} {xs ys : List BufId} (zs : List Slice) → Shares s t xs ys → AllReadable s zs
    → AllReadable t zs
readable_on {s = s} {t = t} zs m h = readable_same s t zs m.arena m.pools h

pub reclaims_shares : {s t : Stored} {xs ys : List BufId} → Shares s t xs ys → AllReclaimed s → AllReclaimed t
reclaims_shares {s = s} {t = t} m all = all_reclaimed_same s t m.arena m.pools all

pub covers_part : {a b c : Stored} {xs ys : List BufId} → Covers a xs → Shares a b [] ys → Moves b c xs [] → Covers c ys
covers_part c m n = record { each = λ x. omega (arith, c.each x, m.counts.each x, n.counts.each x, tally_none x) }

-- A range, part after part.

pub covered_over : (es : List Extent) (i : ℕ) → IsSome (cover es i) → IsSome (extent_over es i)
covered_over [] i h = h
covered_over (x ∷ xs) i h = here (is_over x i) h (covered_over xs i) where
  here : (b : Bool) → IsSome (cond b (Some (cell_at x i)) (cover xs i))
      → (IsSome (cover xs i) → IsSome (extent_over xs i)) → IsSome (cond b (Some x) (extent_over xs i))
  here true h ih = refl
  here false h ih = ih h

cell_there : {s : Stored} (x : Extent) (i : ℕ) → x.at ≤ i → i < end_of x → AllReadable s x.parts
    → IsThere s (cell_at x i).place
cell_there {s} x i lo hi all = all.each (i - x.at) no_place (omega (arith, lo, hi))

cover_there : {s : Stored} (es : List Extent) (i : ℕ) → IsSome (cover es i) → AllReadable s (all_parts es)
    → IsThere s (place_over es i)
cover_there {s} [] i h all = cc
cover_there {s} (x ∷ xs) i h all =
    let both = readable_parts {s = s} x.parts (all_parts xs) all in
    here (is_over x i) (over_from x i) h (λ lo hi. cell_there {s = s} x i lo hi both.0)
    (λ k. cover_there {s = s} xs i k both.1) where
      here : (b : Bool) → (b ≡ true → (x.at ≤ i) × (i < end_of x)) → IsSome (cond b (Some (cell_at x i)) (cover xs i))
          → (x.at ≤ i → i < end_of x → IsThere s (cell_at x i).place)
          → (IsSome (cover xs i) → IsThere s (place_over xs i))
          → IsThere s (place_in (cond b (Some (cell_at x i)) (cover xs i)))
      here true f h first ih = first (f refl).0 (f refl).1
      here false f h first ih = ih h

pub over_there : {s : Stored} (es : List Extent) (from to : ℕ) → IsCovered es from to → AllReadable s (all_parts es)
    → All (IsThere s) (places_over es from to)
over_there {s} es from to covered all = λ k d h.
    let n : length (places_over es from to) ≡ to - from = length-map-range_with_len (place_over es) from (to - from) in
    subst (IsThere s)
    (sym (get_or-map-range_with_len (place_over es) from (to - from) k (from + k) d (omega (arith, h, n)) refl))
    (cover_there es (from + k) (covered.each (from + k) (omega arith) (omega (arith, h, n))) all)

pub over_join : (es : List Extent) (from at to : ℕ) → from ≤ at → at ≤ to
    → places_over es from at ++ places_over es at to ≡ places_over es from to
over_join es from at to lo hi =
    let f = place_over es in
    let start : from + (at - from) ≡ at = omega (arith, lo) in
    sym (ap (map f) (range_with_len_split from (at - from) (to - at) (to - from) (omega (arith, lo, hi))
    ∙ ap (λ k. range_with_len from (at - from) ++ range_with_len k (to - at)) start)
    ∙ map-append f (range_with_len from (at - from)) (range_with_len at (to - at)))

pub over_none : (es : List Extent) (at : ℕ) → places_over es at at ≡ []
over_none es at = (let n : at - at ≡ 0 = omega arith in ap (λ k. map (place_over es) (range_with_len at k)) n)

pub length-places_over : (es : List Extent) (from to : ℕ) → length (places_over es from to) ≡ to - from
length-places_over es from to = length-map-range_with_len (place_over es) from (to - from)

pub readable_places : {s : Stored} (xs ys : List Slice) (ps : List Place) → places xs ≡ places ys ++ ps
    → AllReadable s ys → All (IsThere s) ps → AllReadable s xs
readable_places {s} xs ys ps e h all =
    record { each = All-same (IsThere s) _ _ e (All-append (IsThere s) (places ys) ps h.each all) }

pub shared_gone : {a b c : Stored} {ws xs : List BufId} → Shares a b ws xs → Moves b c xs [] → Moves a c ws []
shared_gone m n = record {
  counts = record { each = λ x. omega (arith, m.counts.each x, n.counts.each x, tally_none x) };
  stays = stays_trans (shares_move m).stays n.stays;
  still = λ h. n.still ((shares_move m).still h);
  tidy = λ h. n.tidy (m.tidy h);
}

-- all slices were shared
pub all_shared : {A E : Type 0} {s t : Stored} {xs : List Slice} {given : A → List Slice} (a : A)
    → Shares s t (bufs_of xs) (bufs_of (given a)) → SharesOrReleases {A = A} {E = E} xs given s t (Ok a)
all_shared a m = record {
  shares = m;
  gone = tt;
  frees = frees_shares m;
  lists = ap (map pool_meant) m.pools;
  reclaims =
      reclaims_shares m;
}

-- some slices were shared, and then all were released
pub released_then : {B E : Type 0} {s t u : Stored} {xs : List Slice} {ys : List BufId} {more : B → List Slice} {e : E}
    → Shares s t (bufs_of xs) ys → Moves t u ys [] → SameLists t u → FreesOnly t u → (AllReclaimed t → AllReclaimed u)
    → SharesOrReleases {A = B} xs more s u (Err e)
released_then m gone lists frees reclaims =
    record {
      shares = tt;
      gone = shared_gone m gone;
      frees = frees_trans (frees_shares m) frees gone.counts;
      lists =
          lists ∙ ap (map pool_meant) m.pools;
      reclaims = λ all. reclaims (reclaims_shares m all);
    }

-- some slices were shared, and then a step failed
pub refused_then : {A B E : Type 0} {s t u : Stored} {xs ys : List Slice} {given : A → List Slice} {more : B
    → List Slice} {e : E} → Shares s t (bufs_of xs) (bufs_of ys) → SharesOrReleases {A = A} ys given t u (Err e)
    → SharesOrReleases {A = B} xs more s u (Err e)
refused_then m h = released_then m h.gone h.lists h.frees h.reclaims

-- the shared slices are held in addition to the slices held before
pub held_beside : {a b : Stored} {xs ys : List BufId} → Covers a ys → Shares a b [] xs → Covers b (xs ++ ys)
held_beside {xs = xs} {ys = ys} c m =
    record { each = λ x. omega (arith, c.each x, m.counts.each x, tally_none x, tally-append x xs ys) }

pub readable_of : {s : Stored} (xs : List Slice) (ps : List Place) → places xs ≡ ps → All (IsThere s) ps
    → AllReadable s xs
readable_of {s} xs ps e all = record { each = All-same (IsThere s) _ _ e all }

-- more bytes, which are under extents, may be added to those shared so far
pub may_share : {s t : Stored} {es : List Extent} {so_far : List Slice} {from to n : ℕ} → AreHeld s es → CountsBelow s n
    → n ≤ 2 ^ 62 → Shares s t [] (bufs_of so_far) → AllReadable s so_far → from ≤ to → IsCovered es from to
    → byte_len so_far + (to - from) < 2 ^ 32 → MayShare t es so_far from to
may_share {es = es} {so_far = so_far} there few most m readable ordered covered small = record {
  ordered = ordered;
  apart = there.apart;
  covered = covered;
  held = held_beside there.held m;
  readable = readable_on (all_parts es) m there.readable;
  own_readable = readable_on so_far m readable;
  few = λ b. omega (arith, few.each b, most, m.counts.each b, tally_none b);
  small = small;
}
