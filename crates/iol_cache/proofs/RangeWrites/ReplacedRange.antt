-- A cache in which a range of a file was replaced.
use Rattle.std.proofs.Common.{inl, inr, ◌≡◌, ℕ, ◌+◌, ◌-◌, ◌<◌, ◌≤◌, ◌^◌, ◌==◌, Bool, true, false, cond, List, [], ◌∷◌}
use Rattle.std.proofs.Common.{◌++◌, length, Some, refl, sym, ap, arith, subst}
use Rattle.std.specs.Prelude.{take, drop}
use Rattle.std.specs.List.{All, AllByRecursion}
use Rattle.std.proofs.lemmas.Bool.{cases_lt}
use Rattle.std.proofs.lemmas.Bool.Decides.{nat_tests}
use Rattle.std.proofs.lemmas.List.Elements.{All-nil, All-cons, All-same, All-take, All-drop}
use Rattle.iol_core.specs.NumberedLists.{is_numbered}
use Rattle.iol_core.specs.declared.limits.TheConstants.{MAX_FILE_BYTES}
use Rattle.iol_core.specs.declared.numbers.BufId.{BufId}
use Rattle.iol_hold.specs.Moves.{tally, Covers}
use Rattle.iol_hold.specs.Places.{Place, byte_len, place_in, places, slice_places}
use Rattle.iol_hold.specs.StoreState.{Stored}
use Rattle.iol_hold.specs.Texts.{bufs_of, IsThere}
use Rattle.iol_hold.specs.declared.slices.Slice.{Slice}
use Rattle.iol_hold.proofs.Counts.{bufs-append, tally-append}
use Rattle.iol_hold.proofs.SlicePlaces.{length-slice_places}
use Rattle.std.proofs.lemmas.List.{take_at, drop_at}
use Rattle.std.proofs.lemmas.List.FromFn.{get_or-map-range_with_len}
use Rattle.iol_extent.specs.Extents.{Extent, end_of, extent_over, is_over, last_end, meets, put_in, unmet}
use Rattle.iol_extent.specs.declared.spans.Span.{Span}
use Rattle.iol_cache.specs.declared.files.CachedFile.{CachedFile}
use Rattle.iol_cache.specs.Marks.{at_page, Counted, HasMarksLeft}
use Rattle.iol_cache.specs.SharedBytes.{CountsBelow}
use Rattle.iol_cache.specs.CacheState.{Cached, file_in, extents_in, clean_in, held, clean_held, all_parts}
use Rattle.iol_cache.specs.Cuts.{CutsLeft, CutsRight}
use Rattle.iol_cache.specs.Evictions.{Holding}
use Rattle.iol_cache.specs.Gaps.{all_put}
use Rattle.iol_cache.specs.Replacement.{HaveClean, indexing_in, put_some}
use Rattle.iol_cache.specs.Sound.{IsLaid, IsSound}
use Rattle.iol_cache.specs.Writes.{Changes, MayPutOver, MayReplace, PutsOver, parts_put}
use Rattle.iol_cache.specs.declared.write.cut.Replacement.{Replacement}
use Rattle.iol_cache.proofs.Evictions.Ready.{is_ready}
use Rattle.iol_cache.proofs.Evictions.Roomy.{ranks_file}
use Rattle.iol_cache.proofs.RangeWrites.Composition.{pools_of}
use Rattle.iol_cache.proofs.RangeWrites.Cuts.{left_of, right_of}
use Rattle.iol_cache.proofs.Extents.FileEntries.{additive_tally, additive_page, sum-flat, sum-file_in, each-put_in}
use Rattle.iol_cache.proofs.RangeReads.PutExtents.{last_end-all_put}
use Rattle.iol_cache.proofs.RangeReads.WholeRange.{laid_readable}
use Rattle.iol_cache.proofs.Extents.HeldSlices.{covers_file, sum-file}
use Rattle.iol_cache.proofs.RangeWrites.Replacement.{page-three}
use Rattle.iol_cache.proofs.Extents.StoreSteps.{mark_few, page_len}
use Rattle.iol_cache.proofs.Extents.ChangedFile.{sound_changed}

-- The extents after: those that were not met, the parts on both sides, the new one.

each_unmet : (P : Extent → Type 0) (es : List Extent) (from to : ℕ) → AllByRecursion P es
    → AllByRecursion P (unmet es from to)
each_unmet P [] from to all = tt
each_unmet P (x ∷ xs) from to all = here (meets from to x) (each_unmet P xs from to all.1)
  where
    here : (b : Bool) → AllByRecursion P (unmet xs from to)
        → AllByRecursion P (cond b (unmet xs from to) (x ∷ unmet xs from to))
    here true rest = rest
    here false rest = (all.0, rest)

each_some : (P : Extent → Type 0) (es : List Extent) (e : Extent) → AllByRecursion P es → (0 < byte_len e.parts → P e)
    → AllByRecursion P (put_some es e)
each_some P es e all more = here (byte_len e.parts == 0) (some_of (byte_len e.parts))
  where
    some_of : (n : ℕ) → (n == 0) ≡ false → 0 < n
    some_of n h = grind (arith, nat_tests)

    here : (b : Bool) → (b ≡ false → 0 < byte_len e.parts) → AllByRecursion P (cond b es (put_in es e))
    here true some = all
    here false some = each-put_in P es e all (more (some refl))

each_over : (P : Extent → Type 0) (es : List Extent) (i : ℕ) (e : Extent) → AllByRecursion P es
    → extent_over es i ≡ Some e → P e
each_over P [] i e all h = cc
each_over P (x ∷ xs) i e all h = here (is_over x i) h (each_over P xs i e all.1)
  where
    here : (b : Bool) → cond b (Some x) (extent_over xs i) ≡ Some e → (extent_over xs i ≡ Some e → P e) → P e
    here true h ih = let same : x ≡ e = cc in subst P same all.0
    here false h ih = ih h

unmet_end : (es : List Extent) (from to : ℕ) → last_end (unmet es from to) ≤ last_end es
unmet_end [] from to = omega arith
unmet_end (x ∷ xs) from to = here (meets from to x) (unmet_end xs from to)
  where
    here : (b : Bool) → last_end (unmet xs from to) ≤ last_end xs
        → last_end (cond b (unmet xs from to) (x ∷ unmet xs from to)) ≤ last_end (x ∷ xs)
    here true ih = omega (arith, ih)
    here false ih = omega (arith, ih)

some_end : (es : List Extent) (e : Extent) (n : ℕ) → last_end es ≤ n → (0 < byte_len e.parts → end_of e ≤ n)
    → last_end (put_some es e) ≤ n
unfolding all_put
some_end es e n short ends = here (byte_len e.parts == 0) (some_of (byte_len e.parts))
  where
    some_of : (n : ℕ) → (n == 0) ≡ false → 0 < n
    some_of n h = grind (arith, nat_tests)

    here : (b : Bool) → (b ≡ false → 0 < byte_len e.parts) → last_end (cond b es (put_in es e)) ≤ n
    here true some = short
    here false some =
        last_end-all_put es (e ∷ []) n short
        (All-cons (λ (x : Extent). end_of x ≤ n) e [] (ends (some refl)) (All-nil (λ (x : Extent). end_of x ≤ n)))

pub over_end : (es : List Extent) (i : ℕ) (e : Extent) → extent_over es i ≡ Some e → end_of e ≤ last_end es
over_end [] i e h = cc
over_end (x ∷ xs) i e h = here (is_over x i) h (over_end xs i e)
  where
    here : (b : Bool) → cond b (Some x) (extent_over xs i) ≡ Some e
        → (extent_over xs i ≡ Some e → end_of e ≤ last_end xs) → end_of e ≤ last_end (x ∷ xs)
    here true h ih = let same : x ≡ e = cc in omega (arith, ap end_of same)
    here false h ih = omega (arith, ih h)

-- The slices of the cut parts are of the file's pool.

slices_in_pool : (p : ℕ) (xs : List Slice) → All (λ (l : Place). l.pool ≡ p) (places xs)
    → All (λ (x : Slice). x.hold.pool ≡ p) xs
slices_in_pool p [] h = All-nil (λ (x : Slice). x.hold.pool ≡ p)
slices_in_pool p (x ∷ xs) h =
    let home : Place → Type 0 = λ (l : Place). l.pool ≡ p in
    let n = length (slice_places x) in
    let head : take n (places (x ∷ xs)) ≡ slice_places x = take_at (slice_places x) (places xs) _ refl in
    let rest : drop n (places (x ∷ xs)) ≡ places xs = drop_at (slice_places x) (places xs) _ refl in
    let mine = All-same home _ _ (sym head) (All-take home n (places (x ∷ xs)) h) in
    let d : Place = place_in x 0 in
    let first = subst home (get_or-map-range_with_len (place_in x) x.from x.len 0 (x.from + 0) d x.some refl)
    (mine 0 d (omega (arith, length-slice_places x, x.some))) in
    All-cons (λ (y : Slice). y.hold.pool ≡ p) x xs first
    (slices_in_pool p xs (All-same home _ _ (sym rest) (All-drop home n (places (x ∷ xs)) h)))

left_laid : (s : Stored) (p : ℕ) (es : List Extent) (from : ℕ) (x : Extent) → AllByRecursion (IsLaid s p) es
    → CutsLeft es from x
    → 0 < byte_len x.parts → IsLaid s p x
left_laid s p es from x all cut some =
    let l = left_of es from x cut some in
    let e = l.extent in
    let laid = each_over (IsLaid s p) es from e all l.over in
    let home : Place → Type 0 = λ (q : Place). q.pool ≡ p in
    record {
      readable =
          record {
            each =
                All-same (IsThere s) _ _ l.before.is
                (All-take (IsThere s) (from - e.at) (places e.parts) laid.readable.each);
          };
      home =
          slices_in_pool p x.parts
          (All-same home _ _ l.before.is
          (All-take home (from - e.at) (places e.parts) (pools_of (λ n. n ≡ p) e.parts laid.home)));
    }

right_laid : (s : Stored) (p : ℕ) (es : List Extent) (to : ℕ) (x : Extent) → AllByRecursion (IsLaid s p) es → 0 < to
    → CutsRight es to x → 0 < byte_len x.parts → IsLaid s p x
right_laid s p es to x all pos cut some =
    let l = right_of es to x pos cut some in
    let e = l.extent in
    let laid = each_over (IsLaid s p) es (to - 1) e all l.over in
    let home : Place → Type 0 = λ (q : Place). q.pool ≡ p in
    record {
      readable =
          record {
            each =
                All-same (IsThere s) _ _ l.after.is
                (All-drop (IsThere s) (to - e.at) (places e.parts) laid.readable.each);
          };
      home =
          slices_in_pool p x.parts
          (All-same home _ _ l.after.is
          (All-drop home (to - e.at) (places e.parts) (pools_of (λ n. n ≡ p) e.parts laid.home)));
    }

-- The conditions of the replacement of a range.

pub left_len : (es : List Extent) (from : ℕ) (x : Extent) → CutsLeft es from x → byte_len x.parts ≤ from
left_len es from x cut = elim (cases_lt 0 (byte_len x.parts)) [
  | inl some ↦ omega (arith, (left_of es from x cut some).ends)
  | inr none ↦ omega (arith, none)
]

have_clean : (fs : List CachedFile) (f : ℕ) (marks : List ℕ) → Counted marks (clean_held fs)
    → HaveClean marks (extents_in fs f)
unfolding clean_held
have_clean fs f marks counted =
    let g : CachedFile → List BufId = λ y. bufs_of (clean_in y.extents.extents) in
    record {
      each =
          λ p. omega (
            arith,
            counted.each p,
            sum-flat (additive_page p) g fs,
            sum-file_in (λ y. at_page p (g y)) fs f (additive_page p).none,
          );
    }

covers_put : {s : Stored} (fs : List CachedFile) (f : ℕ) (ps : List Slice) → Covers s (held fs ++ bufs_of ps)
    → Covers s (bufs_of (all_parts (extents_in fs f) ++ ps))
covers_put fs f ps c =
    let es = extents_in fs f in
    record {
      each =
          λ b. omega (
            arith,
            c.each b,
            tally-append b (held fs) (bufs_of ps),
            sum-file (tally b) (additive_tally b) fs f,
            ap (tally b) (bufs-append (all_parts es) ps),
            tally-append b (bufs_of (all_parts es)) (bufs_of ps),
          );
    }

marks_left : (s : Stored) (c : Cached) (l r n : List Slice) → IsSound s c → CountsBelow s (2 ^ 61) → byte_len l < 2 ^ 32
    → byte_len r < 2 ^ 32 → byte_len n < 2 ^ 32 → HasMarksLeft c.marks (l ++ (r ++ n))
marks_left s c l r n sound few hl hr hn =
    record {
      each =
          λ p. omega (
            arith,
            mark_few s c (2 ^ 61) p sound few (omega arith),
            page-three p l r n,
            page_len p l,
            page_len p r,
            page_len p n,
            hl,
            hr,
            hn,
          );
    }

pub may_replace : (h : Holding) (f : ℕ) (range : Span) (put : Replacement) → MayPutOver f range put h
    → MayReplace f range put h.store (indexing_in h.cache f)
may_replace h f range put may =
    let c = h.cache in
    let left = put.left in
    let right = put.right in
    let e = put.bytes in
    let sound = may.sound in
    let cuts = may.cuts in
    record {
      cuts = cuts;
      stands = record {
        indexed = record {
          apart = (sound.files f).apart;
          ranked = ranks_file h.store c f sound;
          ready =
              is_ready c.files c.orders f sound.ready;
          marked = have_clean c.files f c.marks sound.marked;
        };
        pages = sound.pages;
        held = covers_file c.files f sound.covered;
        readable = laid_readable _ _ (sound.files f).laid;
      };
      beside = covers_put c.files f (parts_put left right e) may.held;
      few = marks_left h.store c left.parts right.parts e.parts sound may.few
          (omega (arith, left_len (extents_in c.files f) range.from left cuts.before, cuts.some, may.short))
          (omega (arith, cuts.fits)) (omega (arith, cuts.begins, cuts.ends, may.short));
      places = may.places;
    }

-- The cache after the replacement.

module _ (old new : Holding) (f : ℕ) (range : Span) (put : Replacement) (sound : IsSound old.store old.cache)
    (there : is_numbered old.cache.files f ≡ true) (puts : PutsOver f range put old new)
    (held_all : Covers old.store (held old.cache.files ++ bufs_of (parts_put put.left put.right put.bytes))) where
  abbrev from : ℕ
  from = range.from

  abbrev to : ℕ
  to = range.to

  abbrev left : Extent
  left = put.left

  abbrev right : Extent
  right = put.right

  abbrev e : Extent
  e = put.bytes

  abbrev pool : ℕ
  pool = (file_in old.cache.files f).pool

  abbrev es : List Extent
  es = extents_in old.cache.files f

  abbrev pub changes : Changes f (parts_put left right e) old new
  changes = record {
    extents = puts.extents;
    order = puts.order;
    apart = puts.apart;
    files = puts.files;
    orders = puts.orders;
    follows = puts.follows;
    moves = puts.moves;
    pages = puts.frees.count;
    pools = puts.frees.pools;
  }

  pub laid_put : 0 < to → CutsLeft es from left → CutsRight es to right → IsLaid old.store pool e
      → AllByRecursion (IsLaid old.store pool) puts.extents.extents
  laid_put pos cut_left cut_right own =
      let all = (sound.files f).laid in
      let laid = IsLaid old.store pool in
      let one =
      each_some laid (unmet es from to) left (each_unmet laid es from to all)
      (left_laid old.store pool es from left all cut_left) in
      let two =
      each_some laid (put_some (unmet es from to) left) right one
      (right_laid old.store pool es to right all pos cut_right) in
      subst (λ (l : List Extent). AllByRecursion laid l) (sym puts.is) (each_some laid _ e two (λ some. own))

  short_put : 0 < to → to ≤ MAX_FILE_BYTES → end_of e ≡ to → from < to → CutsLeft es from left → CutsRight es to right
      → last_end puts.extents.extents ≤ MAX_FILE_BYTES
  short_put pos small ends order cut_left cut_right =
      let was = (sound.files f).short in
      let one = some_end (unmet es from to) left MAX_FILE_BYTES (omega (arith, unmet_end es from to, was))
      (λ some. omega (arith, (left_of es from left cut_left some).ends, order, small)) in
      let two =
      some_end (put_some (unmet es from to) left) right MAX_FILE_BYTES one
      (λ some. (let r = right_of es to right pos cut_right some in
      omega (arith, r.ends, over_end es (to - 1) r.extent r.over, was))) in
      omega (arith, ap last_end puts.is, some_end _ e MAX_FILE_BYTES two (λ some. omega (arith, ends, small)))

  pub sound_put : MayPutOver f range put old → IsSound new.store new.cache
  sound_put may =
      let cuts = may.cuts in
      let pos : 0 < to = omega (arith, cuts.some) in
      sound_changed old new f (parts_put left right e) sound there changes held_all
      (laid_put pos cuts.before cuts.after may.laid)
      (short_put pos may.short cuts.ends cuts.some cuts.before cuts.after)
