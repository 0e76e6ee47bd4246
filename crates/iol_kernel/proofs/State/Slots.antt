-- The files' extents over a step of the store.
use Rattle.std.proofs.Common.{◌≡◌, ℕ, ◌-◌, ◌*◌, ◌≤◌, List, [], ◌∷◌, ◌++◌, length, map, refl, sym, ap, ◌∙◌, subst, arith}
use Rattle.std.proofs.Common.{inl, inr, true, false}
use Rattle.std.specs.Prelude.{slice_index, sum_by}
use Rattle.std.proofs.lemmas.Bool.{cases_eq}
use Rattle.std.proofs.lemmas.Bool.Decides.{nat_tests}
use Rattle.std.proofs.lemmas.List.{ext_get_or}
use Rattle.std.proofs.lemmas.List.FromFn.{get_or-map-range_with_len, length-map-range_with_len}
use Rattle.std.proofs.lemmas.List.Concat.{flat_map-cons}
use Rattle.std.proofs.lemmas.List.Sums.{sum_by-cons}
use Rattle.std.specs.List.{range_with_len, AllByRecursion}
use Rattle.iol_core.specs.NumberedLists.{is_numbered}
use Rattle.iol_core.specs.declared.limits.TheConstants.{MAX_FILES, MAX_FILE_BYTES}
use Rattle.iol_core.specs.declared.numbers.BufId.{BufId}
use Rattle.iol_arena.specs.State.{page_count}
use Rattle.iol_pool.specs.Pools.{pool_in}
use Rattle.iol_back.specs.Disk.{content}
use Rattle.iol_hold.specs.StoreState.{Stored, IsTidy, IsStill}
use Rattle.iol_hold.specs.Moves.{Stays, Covers, tally}
use Rattle.iol_hold.specs.Places.{Place, byte_len}
use Rattle.iol_hold.specs.Texts.{bufs_of}
use Rattle.iol_hold.specs.declared.slices.Slice.{Slice}
use Rattle.iol_hold.proofs.Counts.{same_few, tally-append, bufs-append}
use Rattle.iol_hold.proofs.SlicePlaces.{byte_len-cons}
use Rattle.iol_extent.specs.Extents.{Extent, IsApart, last_end, end_of}
use Rattle.iol_cache.specs.CacheState.{Cached, file_in, no_file, extents_in, all_parts, held}
use Rattle.iol_cache.specs.Contents.{byte_in, file_bytes, file_len}
use Rattle.iol_cache.specs.Sound as cache
use Rattle.iol_cache.specs.declared.files.CachedFile.{CachedFile}
use Rattle.iol_cache.proofs.Extents.FewerExtents.{laid_stays}
use Rattle.iol_cache.proofs.Evictions.Files.{bytes_same, read_stays}
use Rattle.iol_cache.proofs.Extents.FileEntries.{numbered_bounds, additive_tally, sum-flat}
use Rattle.iol_cache.proofs.Extents.OtherCalls.{sound_stays}
use Rattle.iol_cache.proofs.Extents.HeldSlices.{covers_file}
use Rattle.iol_kernel.specs.HoldCounts.{uses}
use Rattle.iol_kernel.specs.KernelState.{IsFile, IsFileReadable, IsCached}
use Rattle.iol_kernel.specs.Readings.{Reading, bytes_over, slot_read, slots_of, slots_read}

-- the bytes of extents can still be read
pub file_stays : (s t : Stored) (fs : List CachedFile) (n : ℕ) → Stays s t → Covers t (held fs) → IsFileReadable s fs n
    → IsFileReadable t fs n
file_stays s t fs n stays covers there =
    record { laid = laid_stays (file_in fs n).pool (extents_in fs n) stays (covers_file fs n covers) there.laid }

-- so each file has the bytes that it had
pub slots_stay : (stored : List (List ℕ)) (s t : Stored) (fs : List CachedFile) → Stays s t → Covers t (held fs)
    → ((n : ℕ) → IsFileReadable s fs n) → slots_read (bytes_over stored t) fs ≡ slots_read (bytes_over stored s) fs
unfolding slots_read
slots_stay stored s t fs stays covers there = λ i. map (λ n. each n i) (range_with_len 1 MAX_FILES)
  where
    each : (n : ℕ) → slot_read (bytes_over stored t) fs n ≡ slot_read (bytes_over stored s) fs n
    each n =
        bytes_same (byte_in t) (byte_in s) (content stored n) (extents_in fs n) (extents_in fs n)
        (λ i. read_stays (file_in fs n).pool (extents_in fs n) (slice_index (content stored n) i) i stays
        (covers_file fs n covers) (there n).laid) refl

-- and the cache stays sound
pub cache_stays : (s t : Stored) (c : Cached) → Stays s t → Covers t (held c.files)
    → page_count t.arena ≡ page_count s.arena
    → ((n : ℕ) → is_numbered c.files n ≡ true → (pool_in t.pools (file_in c.files n).pool).closed ≡ false) → IsTidy t
    → IsStill t.arena → IsCached s c → IsCached t c
unfolding IsCached
cache_stays s t c stays covers count opened tidy still sound =
    sound_stays c sound stays covers (record { each = opened }) count tidy still

-- Where there are no files.

file-none : (n : ℕ) → file_in [] n ≡ no_file
unfolding file_in
file-none n = elim (cases_eq n 0) [ inl k ↦ grind (arith, nat_tests, k) | inr k ↦ grind (arith, nat_tests, k) ]

pub none_readable : (s : Stored) (n : ℕ) → IsFileReadable s [] n
none_readable s n =
    record {
      laid = subst (λ (x : CachedFile). AllByRecursion (cache.IsLaid s x.pool) x.extents.extents) (sym (file-none n))
          tt;
    }

pub held-none : (b : BufId) → tally b (held []) ≡ 0
unfolding held tally
held-none b = refl

pub none_there : {A : Type 0} (xs : List A) (n : ℕ) → xs ≡ [] → is_numbered xs n ≡ true → ⊥
none_there xs n is there = let bounds = numbered_bounds xs n there in
    absurd (omega (arith, bounds.0, bounds.1, ap length is))

-- a file without extents has the stored bytes
pub file_bytes-none : (g : Place → ℕ) (bytes : List ℕ) → file_bytes g bytes [] ≡ bytes
file_bytes-none g bytes = (λ i. map (slice_index bytes) (range_with_len 0 (len i))) ∙ all_of bytes
  where
    len : file_len bytes [] ≡ length bytes
    len = omega arith

    all_of : (xs : List ℕ) → map (slice_index xs) (range_with_len 0 (length xs)) ≡ xs
    all_of xs =
        ext_get_or 0 (map (slice_index xs) (range_with_len 0 (length xs))) xs
        (length-map-range_with_len (slice_index xs) 0 (length xs))
        (λ i within. get_or-map-range_with_len (slice_index xs) 0 (length xs) i i 0
        (omega (arith, within, length-map-range_with_len (slice_index xs) 0 (length xs))) (omega arith))

pub slots-none : (f : Reading) → slots_read f [] ≡ slots_of f.stored
unfolding slots_read
slots-none f = λ i. map (λ n. each n i) (range_with_len 1 MAX_FILES)
  where
    each : (n : ℕ) → slot_read f [] n ≡ content f.stored n
    each n = ap (λ (x : CachedFile). file_bytes (λ p. (f.at p).0) (content f.stored n) x.extents.extents) (file-none n)
        ∙ file_bytes-none (λ p. (f.at p).0) (content f.stored n)

-- How many slices there can be.

pub uses_few : (b : BufId) (xs : List Slice) → uses b xs ≤ byte_len xs
unfolding tally
uses_few b [] = omega arith
uses_few b (x ∷ xs) = let r = uses_few b xs in omega (arith, r, byte_len-cons x xs, same_few b x.hold.buf, x.some)

extents_few : (b : BufId) (low : ℕ) (es : List Extent) → IsApart low es
    → tally b (bufs_of (all_parts es)) ≤ last_end es - low
unfolding tally
extents_few b low [] apart = omega arith
extents_few b low (e ∷ es) apart =
    let parts : all_parts (e ∷ es) ≡ e.parts ++ all_parts es = flat_map-cons (λ (x : Extent). x.parts) e es in
    omega (
      arith,
      extents_few b (end_of e) es apart.2,
      ap (λ (xs : List Slice). tally b (bufs_of xs)) parts,
      ap (tally b) (bufs-append e.parts (all_parts es)),
      tally-append b (bufs_of e.parts) (bufs_of (all_parts es)),
      uses_few b e.parts,
      apart.0,
    )

pub files_few : (b : BufId) (fs : List CachedFile) → AllByRecursion IsFile fs
    → tally b (held fs) ≤ MAX_FILE_BYTES * length fs
unfolding held
files_few b fs each =
    omega (
      arith,
      sum-flat (additive_tally b) (λ (x : CachedFile). bufs_of (all_parts x.extents.extents)) fs,
      few fs each,
    )
  where
    few : (gs : List CachedFile) → AllByRecursion IsFile gs
        → sum_by (λ (x : CachedFile). tally b (bufs_of (all_parts x.extents.extents))) gs ≤ MAX_FILE_BYTES * length gs
    few [] each = omega arith
    few (x ∷ gs) each = omega (
      arith,
      few gs each.1,
      sum_by-cons (λ (y : CachedFile). tally b (bufs_of (all_parts y.extents.extents))) x gs,
      extents_few b 0 x.extents.extents each.0.apart,
      each.0.short,
    )
