-- The invariant between any two calls of a cache.
use Rattle.std.specs.Prelude.{◌≡◌, ℕ, ◌+◌, ◌≤◌, ◌<◌, ◌^◌, List, [], ◌∷◌, ◌++◌, length, Result, IfOk, OnErr}
use Rattle.std.specs.Prelude.{OnOk, IsTrue, IsFalse}
use Rattle.std.specs.List.{All, AllByRecursion}
use Rattle.iol_core.specs.NumberedLists.{is_numbered}
use Rattle.iol_core.specs.declared.limits.TheConstants.{MAX_FILES, MAX_FILE_BYTES}
use Rattle.iol_arena.specs.State.{page_count}
use Rattle.iol_pool.specs.Pools.{pool_in}
use Rattle.iol_hold.specs.StoreState.{Stored, IsTidy, IsStill}
use Rattle.iol_hold.specs.Moves.{Covers}
use Rattle.iol_hold.specs.Texts.{AllReadable}
use Rattle.iol_hold.specs.declared.slices.Slice.{Slice}
use Rattle.iol_extent.specs.Extents.{Extent, IsApart, last_end}
use Rattle.iol_cache.specs.declared.files.CachedFile.{CachedFile}
use Rattle.iol_cache.specs.Marks.{Counted}
use Rattle.iol_cache.specs.CacheState.{Cached, file_in, held, clean_held, new_file, order_in, AreRanked, AreReady}

-- an extent's slices are in live buffers of the pool
pub record IsLaid (s : Stored) (pool : ℕ) (e : Extent) : Type 0 where
  pub readable : AllReadable s e.parts
  pub home : All (λ (x : Slice). x.hold.pool ≡ pool) e.parts

-- a file's extents do not overlap, are in its pool, and end within the limit
pub record IsFiled (s : Stored) (x : CachedFile) : Type 0 where
  pub apart : IsApart 0 x.extents.extents
  pub laid : AllByRecursion (IsLaid s x.pool) x.extents.extents
  pub short : last_end x.extents.extents ≤ MAX_FILE_BYTES

-- each file is of an open pool, which has an order
pub record IsOpened (s : Stored) (c : Cached) (f : ℕ) : Type 0 where
  pub is_open : IsFalse (pool_in s.pools (file_in c.files f).pool).closed
  pub ordered : IsTrue (is_numbered c.orders (file_in c.files f).pool)

-- each slice of an extent holds its buffer, clean extents are marked and are in the orders, which keep a place for each
-- dirty one
pub record IsSound (s : Stored) (c : Cached) : Type 0 where
  pub files : (f : ℕ) → IsFiled s (file_in c.files f)
  pub opened : (f : ℕ) → IsTrue (is_numbered c.files f) → IsOpened s c f
  pub covered : Covers s (held c.files)
  pub marked : Counted c.marks (clean_held c.files)
  pub pages : length c.marks ≡ page_count s.arena
  pub ranked : AreRanked c.files c.orders
  pub ready : AreReady c.files c.orders
  pub few_files : length c.files ≤ MAX_FILES
  pub few_orders : length c.orders < 2 ^ 32
  pub tidy : IsTidy s
  pub still : IsStill s.arena

-- the marks are those of the clean extents, all of which are held
pub record IsUsable (s : Stored) (fs : List CachedFile) (marks : List ℕ) : Type 0 where
  pub files : (f : ℕ) → IsFiled s (file_in fs f)
  pub covered : Covers s (held fs)
  pub marked : Counted marks (clean_held fs)
  pub pages : length marks ≡ page_count s.arena

-- There is no file and no order. The cache is sound over each store with that many pages that is tidy and still.
pub record HasNoFile (pages : ℕ) (c : Cached) : Type 0 where
  pub files : c.files ≡ []
  pub orders : c.orders ≡ []
  pub sound : (s : Stored) → page_count s.arena ≡ pages → IsTidy s → IsStill s.arena → IsSound s c

-- A file of the pool was added, with the next number and without extents; or, after an error, nothing changed. Each
-- pool's order is unchanged, and a cache that was sound is sound, if the pool is open.
pub record AddsFile {E : Type 0} (pool : ℕ) (old new : Cached) (r : Result ℕ E) : Type 0 where
  pub number : IfOk r (λ f. f ≡ length old.files + 1)
  pub added : OnOk r (new.files ≡ old.files ++ new_file pool ∷ [])
  pub err : OnErr r (new ≡ old)
  pub orders : (p : ℕ) → order_in new.orders p ≡ order_in old.orders p
  pub sound : (s : Stored) → IsSound s old → IsFalse (pool_in s.pools pool).closed → IsSound s new
