-- The bytes that a read returns are the bytes of the file.
use Rattle.std.proofs.Common.{inl, inr, ◌≡◌, ℕ, zero, suc, ◌+◌, ◌-◌, ◌<◌, ◌≤◌, Bool, true, false, cond, List, [], ◌∷◌}
use Rattle.std.proofs.Common.{◌++◌, length, map, get_or, min, Option, Some, None, IsSome, refl, sym, ap, ◌∙◌, arith}
use Rattle.std.proofs.Common.{subst, length-append}
use Rattle.std.specs.Prelude.{slice_index, take, drop}
use Rattle.std.specs.List.{All, range_with_len, AllByRecursion}
use Rattle.std.proofs.lemmas.Bool.{cases_lt}
use Rattle.std.proofs.lemmas.List.{drop_at, map-append, take_at}
use Rattle.std.proofs.lemmas.List.Elements.{All-append, All-drop, All-head, All-nil, All-same, All-tail, All-take}
use Rattle.std.proofs.lemmas.List.Elements.{All-weaker}
use Rattle.std.proofs.lemmas.List.FromFn.{get_or-map-range_with_len, length-map-range_with_len}
use Rattle.iol_core.specs.NumberedLists.{is_numbered}
use Rattle.iol_core.specs.Text as text
use Rattle.iol_back.specs.Disk.{Disk, content}
use Rattle.iol_extent.proofs.Alone.{ends_high}
use Rattle.iol_extent.specs.Extents.{Cell, Extent, cell_at, cover, is_over, no_place}
use Rattle.iol_extent.specs.Spans.{AreInOrder}
use Rattle.iol_extent.specs.declared.spans.Span.{Span}
use Rattle.iol_hold.specs.Moves.{Stays}
use Rattle.iol_hold.specs.Places.{Place, byte_len, place_in, places, slice_places}
use Rattle.iol_hold.specs.StoreState.{Stored}
use Rattle.iol_hold.specs.Texts.{AllReadable, IsThere, bufs_of, byte_at, text_of}
use Rattle.iol_hold.specs.declared.slices.Slice.{Slice}
use Rattle.iol_hold.proofs.Moves.{bytes_stay}
use Rattle.iol_hold.proofs.SlicePlaces.{length-slice_places, range_with_len_split}
use Rattle.iol_cache.specs.CacheState.{extents_in, file_in}
use Rattle.iol_cache.specs.Contents.{byte_in, file_byte, file_bytes, file_len, read_or}
use Rattle.iol_cache.specs.Evictions.{Holding}
use Rattle.iol_cache.specs.Gaps.{AreOf}
use Rattle.iol_cache.specs.ReadSteps.{Goes}
use Rattle.iol_cache.specs.Ranges.{IsCleanSpan, CompletesRange}
use Rattle.iol_cache.specs.ReadResults.{IsBacked, ReadsFile, bytes_read}
use Rattle.iol_cache.specs.SharedBytes.{IsCovered, IsCoveredSpan, place_over, places_over}
use Rattle.iol_cache.specs.SharedBytes as sharing
use Rattle.iol_cache.specs.Sound.{IsLaid, IsSound}
use Rattle.iol_cache.specs.Weave.{IsCoveredBeside, places_read}
use Rattle.iol_cache.proofs.Extents.FewerExtents.{over_of}
use Rattle.iol_cache.proofs.RangeReads.OnePool.{pooled_places}
use Rattle.iol_cache.proofs.RangeReads.WholeRange.{laid_readable}
use Rattle.iol_cache.proofs.RangeReads.RangeHolds.{covered_span, span_cover}
use Rattle.iol_cache.proofs.RangeReads.SharedBytes.{length-places_over, over_there}
use Rattle.iol_cache.proofs.RangeReads.CoveredBytes.{tile_beside}

-- Pools of places.

abbrev pub IsOf : ℕ → Place → Type 0
IsOf p l = l.pool ≡ p

slice_of : (p : ℕ) (x : Slice) → x.hold.pool ≡ p → All (IsOf p) (slice_places x)
slice_of p x is =
    λ k d h. ap (λ (l : Place). l.pool)
    (get_or-map-range_with_len (place_in x) x.from x.len k (x.from + k) d (omega (arith, h, length-slice_places x))
    refl) ∙ is

pub places_of : (p : ℕ) (xs : List Slice) → All (λ (x : Slice). x.hold.pool ≡ p) xs → All (IsOf p) (places xs)
places_of p [] all = All-nil (IsOf p)
places_of p (x ∷ xs) all =
    let Q : Slice → Type 0 = λ (y : Slice). y.hold.pool ≡ p in
    All-append (IsOf p) (slice_places x) (places xs) (slice_of p x (All-head Q x xs all))
    (places_of p xs (All-tail Q x xs all))

cover_of : (s : Stored) (p : ℕ) (es : List Extent) (i : ℕ) (c : Cell) → AllByRecursion (IsLaid s p) es
    → cover es i ≡ Some c
    → c.place.pool ≡ p
cover_of s p [] i c all h = absurd cc
cover_of s p (x ∷ xs) i c all h = here (is_over x i) refl h (cover_of s p xs i c all.1) where
  here : (b : Bool) → is_over x i ≡ b → cond b (Some (cell_at x i)) (cover xs i) ≡ Some c
      → (cover xs i ≡ Some c → c.place.pool ≡ p) → c.place.pool ≡ p
  here true is h ih =
      let b = over_of x i is in
      let same : cell_at x i ≡ c = cc in
      subst (λ (y : Cell). y.place.pool ≡ p) same
      (places_of p x.parts all.0.home (i - x.at) no_place (omega (arith, b.0, b.1)))
  here false is h ih = ih h

-- the value at the place over a byte is the file's byte, labelled by the file's pool
cover_value : (s : Stored) (p : ℕ) (es : List Extent) (stored : List ℕ) (i : ℕ) → AllByRecursion (IsLaid s p) es
    → IsSome (cover es i) → byte_at s (place_over es i) ≡ (file_byte (byte_in s) stored es i, p)
cover_value s p es stored i all some = pick (cover es i) refl some where
  pick : (o : Option Cell) → cover es i ≡ o → IsSome o
      → byte_at s (sharing.place_in o) ≡ (read_or (byte_in s) (slice_index stored i) o, p)
  pick None is h = cc
  pick (Some c) is h = ap (λ n. (byte_in s c.place, n)) (cover_of s p es i c all is)

there_same : {s t : Stored} (q : Place) → Stays s t → IsThere s q → IsThere t q → byte_at t q ≡ byte_at s q
there_same {s = s} {t = t} q stays old new =
    ap (λ (bs : List ℕ). (slice_index bs q.at, q.pool)) (bytes_stay s t q.buf stays old.live new.live)

-- Runs of bytes.

run_same : (F : Place → ℕ × ℕ) (P : ℕ → Place) (W : ℕ → ℕ × ℕ) (a n : ℕ) → ((i : ℕ) → a ≤ i → i < a + n → F (P i) ≡ W i)
    → map F (map P (range_with_len a n)) ≡ map W (range_with_len a n)
run_same F P W a zero h = refl
run_same F P W a (suc n) h = ap (λ y. y ∷ map F (map P (range_with_len (a + 1) n))) (h a (omega arith) (omega arith))
    ∙ ap (λ l. W a ∷ l) (run_same F P W (a + 1) n (λ i l u. h i (omega (arith, l)) (omega (arith, u))))

labelled_run : (V : ℕ → ℕ) (p : ℕ) (is : List ℕ) → map (λ i. (V i, p)) is ≡ text.labelled p (map V is)
labelled_run V p [] = refl
labelled_run V p (i ∷ is) = ap (λ l. (V i, p) ∷ l) (labelled_run V p is)

runs_join : (W : ℕ → ℕ × ℕ) (a m b : ℕ) → a ≤ m → m ≤ b
    → map W (range_with_len a (m - a)) ++ map W (range_with_len m (b - m)) ≡ map W (range_with_len a (b - a))
runs_join W a m b lo hi =
    let start : a + (m - a) ≡ m = omega (arith, lo) in
    sym (ap (map W) (range_with_len_split a (m - a) (b - m) (b - a) (omega (arith, lo, hi))
    ∙ ap (λ k. range_with_len a (m - a) ++ range_with_len k (b - m)) start)
    ∙ map-append W (range_with_len a (m - a)) (range_with_len m (b - m)))

first_of : {A : Type 0} (P : A → Type 0) (xs ys : List A) → All P (xs ++ ys) → All P xs
first_of P xs ys all = All-same P _ _ (sym (take_at xs ys (length xs) refl)) (All-take P (length xs) (xs ++ ys) all)

rest_of : {A : Type 0} (P : A → Type 0) (xs ys : List A) → All P (xs ++ ys) → All P ys
rest_of P xs ys all = All-same P _ _ (sym (drop_at xs ys (length xs) refl)) (All-drop P (length xs) (xs ++ ys) all)

there_at : {s : Stored} (es : List Extent) (from to i : ℕ) → All (IsThere s) (places_over es from to) → from ≤ i
    → i < to → IsThere s (place_over es i)
there_at {s = s} es from to i all low high =
    subst (IsThere s) (get_or-map-range_with_len (place_over es) from (to - from) (i - from) i no_place
    (omega (arith, low, high)) (omega (arith, low)))
    (all (i - from) no_place (omega (arith, low, high, length-places_over es from to)))

-- The bytes of a range.

module _ (s t : Stored) (p : ℕ) (old new : List Extent) (stored : List ℕ) (stays : Stays s t)
    (laid : AllByRecursion (IsLaid s p) old) (laid_new : AllByRecursion (IsLaid t p) new) (covered : (g : Span) (i : ℕ)
    → IsCleanSpan new g
    → g.from ≤ i → i < g.to → IsSome (cover new i)) (same : (i : ℕ) → i < file_len stored old
    → file_byte (byte_in t) stored new i ≡ file_byte (byte_in s) stored old i) where
  abbrev W : ℕ → ℕ × ℕ
  W i = (file_byte (byte_in s) stored old i, p)

  hit_run : (at to : ℕ) → at ≤ to → IsCovered old at to → All (IsThere t) (places_over old at to)
      → map (byte_at t) (places_over old at to) ≡ map W (range_with_len at (to - at))
  hit_run at to order c there = run_same (byte_at t) (place_over old) W at (to - at) (λ i l u.
      let high : i < to = omega (arith, u, order) in
      let was = over_there {s = s} old at to c (laid_readable p old laid) in
      there_same {s = s} {t = t} (place_over old i) stays (there_at {s = s} old at to i was l high)
      (there_at {s = t} old at to i there l high) ∙ cover_value s p old stored i laid (c.each i l high))

  gap_run : (g : Span) → g.from ≤ g.to → g.to ≤ file_len stored old → IsCleanSpan new g
      → map (byte_at t) (places_over new g.from g.to) ≡ map W (range_with_len g.from (g.to - g.from))
  gap_run g order short stands = run_same (byte_at t) (place_over new) W g.from (g.to - g.from) (λ i l u.
      let high : i < g.to = omega (arith, u, order) in
      cover_value t p new stored i laid_new (covered g i stands l high)
      ∙ ap (λ n. (n, p)) (same i (omega (arith, high, short))))

  read_run : (at to : ℕ) (gs : List Span) → AreInOrder at to gs → to ≤ file_len stored old
      → IsCoveredBeside old at to gs → All (IsCleanSpan new) gs → All (IsThere t) (places_read old new at to gs)
      → map (byte_at t) (places_read old new at to gs) ≡ map W (range_with_len at (to - at))
  read_run at to [] order short c stand there = hit_run at to order c there
  read_run at to (g ∷ gs) order short c stand there =
      let F = byte_at t in
      let A = places_over old at g.from in
      let B = places_over new g.from g.to in
      let C = places_read old new g.to to gs in
      let before = first_of (IsThere t) (A ++ B) C there in
      let end = ends_high g.to to gs order.2 in
      let one = hit_run at g.from order.0 c.0 (first_of (IsThere t) A B before) in
      let two =
      gap_run g (omega (arith, order.1)) (omega (arith, short, end)) (All-head (IsCleanSpan new) g gs stand) in
      let three =
      read_run g.to to gs order.2 short c.1 (All-tail (IsCleanSpan new) g gs stand)
      (rest_of (IsThere t) (A ++ B) C there) in
      map-append F (A ++ B) C ∙ ap (λ l. l ++ map F C) (map-append F A B ∙ ap (λ l. l ++ map F B) one
      ∙ ap (λ l. map W (range_with_len at (g.from - at)) ++ l) two
      ∙ runs_join W at g.from g.to order.0 (omega (arith, order.1)))
      ∙ ap (λ l. map W (range_with_len at (g.to - at)) ++ l) three
      ∙ runs_join W at g.to to (omega (arith, order.0, order.1)) end

-- Pools and lengths, over every store.

place_pool : (s : Stored) (p : ℕ) (es : List Extent) (i : ℕ) → AllByRecursion (IsLaid s p) es → IsSome (cover es i)
    → (place_over es i).pool ≡ p
place_pool s p es i all some = pick (cover es i) refl some where
  pick : (o : Option Cell) → cover es i ≡ o → IsSome o → (sharing.place_in o).pool ≡ p
  pick None is h = cc
  pick (Some c) is h = cover_of s p es i c all is

over_pool : (s : Stored) (p : ℕ) (es : List Extent) (from to : ℕ) → AllByRecursion (IsLaid s p) es
    → IsCovered es from to
    → All (IsOf p) (places_over es from to)
over_pool s p es from to all c = λ k d h.
    let n = length-places_over es from to in
    subst (IsOf p)
    (sym (get_or-map-range_with_len (place_over es) from (to - from) k (from + k) d (omega (arith, h, n)) refl))
    (place_pool s p es (from + k) all (c.each (from + k) (omega arith) (omega (arith, h, n))))

read_pool : (s t : Stored) (p : ℕ) (old new : List Extent) (at to : ℕ) (gs : List Span)
    → AllByRecursion (IsLaid s p) old
    → AllByRecursion (IsLaid t p) new → IsCoveredBeside old at to gs → All (IsCoveredSpan new) gs
    → All (IsOf p) (places_read old new at to gs)
read_pool s t p old new at to [] laid laid_new c stand = over_pool s p old at to laid c
read_pool s t p old new at to (g ∷ gs) laid laid_new c stand =
    let A = places_over old at g.from in
    let B = places_over new g.from g.to in
    let here =
    All-append (IsOf p) A B (over_pool s p old at g.from laid c.0)
    (over_pool t p new g.from g.to laid_new (All-head (IsCoveredSpan new) g gs stand)) in
    All-append (IsOf p) (A ++ B) (places_read old new g.to to gs) here
    (read_pool s t p old new g.to to gs laid laid_new c.1 (All-tail (IsCoveredSpan new) g gs stand))

length-places_read : (old new : List Extent) (at to : ℕ) (gs : List Span) → AreInOrder at to gs
    → length (places_read old new at to gs) + at ≡ to
length-places_read old new at to [] order = omega (arith, length-places_over old at to, order)
length-places_read old new at to (g ∷ gs) order =
    let A = places_over old at g.from in
    let B = places_over new g.from g.to in
    omega (
      arith,
      length-append (A ++ B) (places_read old new g.to to gs),
      length-append A B,
      length-places_over old at g.from,
      length-places_over new g.from g.to,
      length-places_read old new g.to to gs order.2,
      order.0,
      order.1,
    )

-- the gaps are clean extents after the read
gaps_stand : {f from to : ℕ} {pins xs : List Slice} {gaps : List Span} {disk : Disk} {old new : Holding}
    → CompletesRange f from to pins gaps disk old new xs → All (IsCleanSpan (extents_in new.cache.files f)) gaps
gaps_stand {f = f} {new = new} (inl e) =
    subst (All (IsCleanSpan (extents_in new.cache.files f))) (sym e.none)
    (All-nil (IsCleanSpan (extents_in new.cache.files f)))
gaps_stand (inr u) = u.stand

pub pooled_read : (f at n : ℕ) (disk : Disk) (a c : Holding) (xs : List Slice) → IsSound a.store a.cache
    → IsSound c.store c.cache → Goes disk [] (bufs_of xs) a c → ReadsFile f at n disk a c xs
    → AreOf (file_in a.cache.files f).pool xs
pooled_read f at n disk a c xs sound after goes reads =
    let p = (file_in a.cache.files f).pool in
    let old = extents_in a.cache.files f in
    let new = extents_in c.cache.files f in
    let r = reads.reads in
    let laid_new = subst (λ q. AllByRecursion (IsLaid c.store q) new) (goes.pools f) (after.files f).laid in
    let beside = tile_beside old reads.range.from reads.range.to r.pinned.hits r.gaps r.pinned.tile in
    let stand = All-weaker (IsCleanSpan new) (IsCoveredSpan new) (λ g h. covered_span new g (after.files f).apart h)
    r.gaps (gaps_stand r.completed) in
    record {
      each =
          pooled_places p xs
          (All-same (IsOf p) _ _ r.lies (read_pool a.store c.store p old new reads.range.from reads.range.to r.gaps
          (sound.files f).laid laid_new beside stand));
    }

pub long_read : (f at n : ℕ) (disk : Disk) (a c : Holding) (xs : List Slice) → ReadsFile f at n disk a c xs
    → byte_len xs ≤ n
long_read f at n disk a c xs reads =
    let r = reads.reads in
    omega (
      arith,
      ap length r.lies,
      length-places_read (extents_in a.cache.files f) (extents_in c.cache.files f)
          reads.range.from reads.range.to r.gaps r.pinned.tile.gaps,
      reads.range.begins,
      reads.range.stops,
    )

-- A part of a list of bytes.

drop_run : (V : ℕ → ℕ) (k a n : ℕ) → drop k (map V (range_with_len a n)) ≡ map V (range_with_len (a + k) (n - k))
drop_run V zero a n = ap (λ m. map V (range_with_len m n)) (let e : a ≡ a + 0 = omega arith in e)
    ∙ ap (λ m. map V (range_with_len (a + 0) m)) (let e : n ≡ n - 0 = omega arith in e)
drop_run V (suc k) a zero = ap (λ m. map V (range_with_len (a + suc k) m)) (let e : 0 ≡ 0 - suc k = omega arith in e)
drop_run V (suc k) a (suc n) = drop_run V k (a + 1) n
    ∙ ap (λ m. map V (range_with_len m (n - k))) (let e : (a + 1) + k ≡ a + suc k = omega arith in e)
    ∙ ap (λ m. map V (range_with_len (a + suc k) m)) (let e : n - k ≡ suc n - suc k = omega arith in e)

take_run : (V : ℕ → ℕ) (a n m : ℕ) → take n (map V (range_with_len a m)) ≡ map V (range_with_len a (min n m))
take_run V a zero m = ap (λ k. map V (range_with_len a k)) (let e : 0 ≡ min 0 m = omega arith in e)
take_run V a (suc n) zero = ap (λ k. map V (range_with_len a k)) (let e : 0 ≡ min (suc n) 0 = omega arith in e)
take_run V a (suc n) (suc m) = ap (λ l. V a ∷ l) (take_run V (a + 1) n m)
    ∙ ap (λ k. map V (range_with_len a k)) (let e : suc (min n m) ≡ min (suc n) (suc m) = omega arith in e)

run_is : (V : ℕ → ℕ) (a b k m : ℕ) → k ≡ m → (0 < k → a ≡ b) → map V (range_with_len a k) ≡ map V (range_with_len b m)
run_is V a b k m e f = elim (cases_lt 0 k) [
  | inl some ↦ ap (λ n. map V (range_with_len n k)) (f some) ∙ ap (λ n. map V (range_with_len b n)) e
  | inr none ↦ ap (λ n. map V (range_with_len a n)) (let z : k ≡ 0 = omega (arith, none) in z)
      ∙ ap (λ n. map V (range_with_len b n)) (let z : 0 ≡ m = omega (arith, none, e) in z)
]

pub part_run : (V : ℕ → ℕ) (at n len from to : ℕ) → from ≡ min at len → to ≡ min (at + n) len
    → take n (drop at (map V (range_with_len 0 len))) ≡ map V (range_with_len from (to - from))
part_run V at n len from to begins ends =
    ap (take n) (drop_run V at 0 len) ∙ take_run V (0 + at) n (len - at)
    ∙ run_is V (0 + at) from (min n (len - at)) (to - from) (omega (arith, begins, ends))
    (λ some. omega (arith, some, begins))

pub byte_same : (g h : Place → ℕ) (stored : List ℕ) (es fs : List Extent)
    → file_bytes g stored es ≡ file_bytes h stored fs → (i : ℕ) → i < file_len stored fs
    → file_byte g stored es i ≡ file_byte h stored fs i
byte_same g h stored es fs e i small =
    let m = file_len stored es in
    let n = file_len stored fs in
    let long : m ≡ n =
    omega (
      arith,
      ap length e,
      length-map-range_with_len (file_byte g stored es) 0 m,
      length-map-range_with_len (file_byte h stored fs) 0 n,
    ) in
    sym (get_or-map-range_with_len (file_byte g stored es) 0 m i i 0 (omega (arith, small, long)) (omega arith))
    ∙ ap (λ (l : List ℕ). get_or l i 0) e
    ∙ get_or-map-range_with_len (file_byte h stored fs) 0 n i i 0 small (omega arith)

pub text_read : (f at n : ℕ) (disk : Disk) (a c : Holding) (xs : List Slice) → IsSound a.store a.cache
    → IsSound c.store c.cache → is_numbered a.cache.files f ≡ true → Goes disk [] (bufs_of xs) a c
    → AllReadable c.store xs → ReadsFile f at n disk a c xs → IsBacked disk a
    → text_of c.store xs ≡ text.labelled (file_in a.cache.files f).pool (bytes_read a.store disk.slots a.cache f at n)
text_read f at n disk a c xs sound after there goes readable reads backed =
    let p = (file_in a.cache.files f).pool in
    let old = extents_in a.cache.files f in
    let new = extents_in c.cache.files f in
    let stored = content disk.slots f in
    let V = file_byte (byte_in a.store) stored old in
    let from = reads.range.from in
    let to = reads.range.to in
    let gs = reads.reads.gaps in
    let end : reads.range.end ≡ file_len stored old =
    omega (arith, reads.range.ends.stored backed.honest, backed.short f there) in
    let laid = (sound.files f).laid in
    let laid_new = subst (λ q. AllByRecursion (IsLaid c.store q) new) (goes.pools f) (after.files f).laid in
    let tile = reads.reads.pinned.tile in
    let same =
    byte_same (byte_in c.store) (byte_in a.store) stored new old
    ((goes.files backed.honest backed.mirrors).each f) in
    let beside = tile_beside old from to reads.reads.pinned.hits gs tile in
    let there_new : All (IsThere c.store) (places_read old new from to gs) =
    All-same (IsThere c.store) _ _ (sym reads.reads.lies) readable.each in
    let run =
    read_run a.store c.store p old new stored goes.moves.stays laid laid_new
    (λ g i stands l u. span_cover new g i (after.files f).apart stands l u) same from to gs tile.gaps
    (omega (arith, reads.range.stops, end)) beside (gaps_stand reads.reads.completed) there_new in
    ap (map (byte_at c.store)) reads.reads.lies ∙ run ∙ labelled_run V p (range_with_len from (to - from))
    ∙ ap (text.labelled p)
    (sym (part_run V at n (file_len stored old) from to (omega (arith, reads.range.begins, end))
    (omega (arith, reads.range.stops, end))))
