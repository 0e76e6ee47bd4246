-- The bytes of a write, as an aggregate of the file's pool: its own are shared, and each run of others is copied.
use Rattle.std.specs.Prelude.{◌≡◌, ℕ, ◌+◌, ◌==◌, ◌<◌, ◌≤◌, ◌++◌, if◌then◌else◌, Bool, not, List, [], ◌∷◌, All}
use Rattle.std.specs.Prelude.{length, take, drop, slice_index_or, Result, Err, IfErr, IfOk, OnErr, IsFalse}
use Rattle.iol_core.specs.Meaning.{WantOfRoom}
use Rattle.iol_core.specs.Text as text
use Rattle.iol_core.specs.declared.limits.TheConstants.{MAX_AGGREGATE_BYTES}
use Rattle.iol_core.specs.declared.refusals.Refusal.{Refusal}
use Rattle.iol_core.specs.declared.refusals.Refusal.TheVariants.{NoRoom}
use Rattle.iol_arena.specs.State.{pages_for}
use Rattle.iol_extent.specs.Extents.{no_place}
use Rattle.iol_hold.specs.Moves.{Covers, Moves}
use Rattle.iol_hold.specs.Places.{Place, byte_len, places}
use Rattle.iol_hold.specs.Room.{free_of}
use Rattle.iol_hold.specs.StoreState.{Stored, AllReclaimed, IsTidy}
use Rattle.iol_hold.specs.Texts.{AllReadable, bufs_of, text_of}
use Rattle.iol_hold.specs.declared.slices.Slice.{Slice}
use Rattle.iol_pool.specs.Pools.{pool_in}
use Rattle.iol_cache.specs.Loads.{PlacesOrReleases, PlacesPages}
use Rattle.iol_cache.specs.SharedBytes.{CountsBelow}

-- The pages that new bytes need in a pool, after `run` bytes of other pools: each maximal run of bytes of other pools
-- is copied apart.
abbrev pub pages_after : (run pool : ℕ) → List Slice → ℕ
pages_after run p [] = pages_for run
pages_after run p (x ∷ xs) =
    if x.hold.pool == p then pages_for run + pages_after 0 p xs else pages_after (run + x.len) p xs

abbrev pub copied_pages : (pool : ℕ) → List Slice → ℕ
copied_pages p xs = pages_after 0 p xs

-- as many bytes as the source has; those already in the pool are in the same places
pub record KeepsOwn (pool : ℕ) (source out : List Place) : Type 0 where
  pub long : length out ≡ length source
  pub each : (i : ℕ) → i < length source → (slice_index_or source i no_place).pool ≡ pool
      → slice_index_or out i no_place ≡ slice_index_or source i no_place

-- The same bytes as those of the source, all in the pool. Those of the pool are shared, and the others are on the
-- lowest k pages that were free.
pub record Composes (s t : Stored) (pool k : ℕ) (source out : List Slice) : Type 0 where
  pub moves : Moves s t [] (bufs_of out)
  pub is : text_of t out ≡ text.labelled pool (text.bytes_of (text_of s source))
  pub own : KeepsOwn pool (places source) (places out)
  pub readable : AllReadable t out
  pub pages : PlacesPages s t pool k
  pub reclaims : AllReclaimed s → AllReclaimed t

-- the first slices of a source were composed in the pool, on as many pages as the source needs in addition to those
-- of the remaining slices
pub record ComposesRun (s t : Stored) (pool : ℕ) (source left out : List Slice) : Type 0 where
  pub run : List Slice
  pub splits : source ≡ run ++ left
  pub count : ℕ
  pub pages : count + copied_pages pool left ≡ copied_pages pool source
  pub composes : Composes s t pool count run out

-- A source's bytes may be composed in a pool: it is open, and the slices are held, can be read, and fit an aggregate.
-- Each buffer is held fewer than n times, and the store is tidy.
pub record MayCompose (s : Stored) (n pool : ℕ) (source : List Slice) : Type 0 where
  pub opened : IsFalse (pool_in s.pools pool).closed
  pub small : byte_len source ≤ MAX_AGGREGATE_BYTES
  pub covered : Covers s (bufs_of source)
  pub few : CountsBelow s n
  pub readable : AllReadable s source
  pub tidy : IsTidy s

-- A source's bytes were composed in a pool. After an error, for lack of room or memory, the placed bytes are released.
pub record ComposesOrReleases (s t : Stored) (pool : ℕ) (source : List Slice)
    (r : Result (List Slice) Refusal) : Type 0 where
  pub composes : IfOk r (Composes s t pool (copied_pages pool source) source)
  pub leaves : PlacesOrReleases pool (copied_pages pool source) s t r
  pub late : IfErr r (WantOfRoom pool)

-- One run of the source.

-- the first slices that are all of the pool, or all of other pools: the number of slices and of bytes
pub record IsFirstRun (pool : ℕ) (own : Bool) (xs : List Slice) (n size : ℕ) : Type 0 where
  pub within : n ≤ length xs
  pub bytes : size ≡ byte_len (take n xs)
  pub all : All (λ (x : Slice). (x.hold.pool == pool) ≡ own) (take n xs)
  pub ends : (d : Slice) → n < length xs → ((slice_index_or xs n d).hold.pool == pool) ≡ not own

-- slices of other pools may be copied to a pool: it is open, they can be read and fit an aggregate, and the store is
-- tidy
pub record MayCopy (s : Stored) (pool : ℕ) (run : List Slice) : Type 0 where
  pub opened : IsFalse (pool_in s.pools pool).closed
  pub small : byte_len run ≤ MAX_AGGREGATE_BYTES
  pub readable : AllReadable s run
  pub tidy : IsTidy s
  pub others : All (λ (x : Slice). IsFalse (x.hold.pool == pool)) run

-- A run of slices was copied to a pool. An error, for lack of room or memory, changes nothing, and NoRoom means that
-- fewer pages are free than the run's bytes need.
pub record CopiesOrKeeps (s t : Stored) (pool : ℕ) (run : List Slice) (r : Result (List Slice) Refusal) : Type 0 where
  pub composes : IfOk r (Composes s t pool (pages_for (byte_len run)) run)
  pub no_room : (p : ℕ) → r ≡ Err (NoRoom p) → length (free_of s pool) < pages_for (byte_len run)
  pub late : IfErr r (WantOfRoom pool)
  pub err : OnErr r (t ≡ s)

-- there is an i-th slice, and that many bytes are before it
pub record IsSliceAt (source : List Slice) (i at : ℕ) : Type 0 where
  pub there : i < length source
  pub before : at ≡ byte_len (take i source)

-- The run that begins with the i-th slice was composed. The result is the index of the next slice, and the number of
-- bytes before it. An error, for lack of room or memory, changes nothing, and NoRoom means that fewer pages are free
-- than the rest needs.
pub record ComposesRunOrKeeps (s t : Stored) (pool : ℕ) (source : List Slice) (i : ℕ)
    (r : Result (ℕ × ℕ × List Slice) Refusal) : Type 0 where
  pub further : IfOk r (λ x. i < x.0)
  pub within : IfOk r (λ x. x.0 ≤ length source)
  pub ends : IfOk r (λ x. x.1 ≡ byte_len (take x.0 source))
  pub composes : IfOk r (λ x. ComposesRun s t pool (drop i source) (drop x.0 source) x.2)
  pub no_room : (p : ℕ) → r ≡ Err (NoRoom p) → length (free_of s pool) < copied_pages pool (drop i source)
  pub late : IfErr r (WantOfRoom pool)
  pub err : OnErr r (t ≡ s)
