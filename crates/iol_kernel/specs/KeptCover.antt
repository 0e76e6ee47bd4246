-- The bytes of files that keep their places when clean extents may be evicted for new bytes.
use Rattle.std.specs.Prelude.{◌≡◌, ◌⊎◌, ℕ, ◌+◌, ◌<◌, ◌≤◌, List, length, Some, IsFalse}
use Rattle.iol_back.specs.Disk.{Disk}
use Rattle.iol_extent.specs.Extents.{Cell, cover}
use Rattle.iol_extent.specs.Spans.{Tile}
use Rattle.iol_extent.specs.declared.spans.Span.{Span}
use Rattle.iol_hold.specs.Room.{free_of}
use Rattle.iol_cache.specs.CacheState.{Cached, extents_in, file_in}
use Rattle.iol_cache.specs.Evictions.{Holding}
use Rattle.iol_cache.specs.Gaps.{gap_pages}
use Rattle.iol_cache.specs.ReadResults.{Range}
use Rattle.iol_kernel.specs.KernelState.{KernelState}

-- fewer pages of the pool are free than are needed
abbrev pub LacksPages : KernelState → (pool wanted : ℕ) → Type 0
LacksPages h p wanted = length (free_of h.store p) < wanted

-- A read of n bytes of a file from `at` on needs more pages for the bytes that are not in memory than are free.
pub record LacksPagesToRead (f at n : ℕ) (disk : Disk) (old : Holding) : Type 0 where
  pub range : Range disk old.cache f at n
  pub hits : List Span
  pub gaps : List Span
  pub tile : Tile (extents_in old.cache.files f) range.from range.to hits gaps
  pub lacks : length (free_of old.store (file_in old.cache.files f).pool) < gap_pages gaps

-- The cell over a byte of file f was evicted: it was clean, the file is of the pool, and pages were needed.
pub record GaveWay (pool : ℕ) (Lacks : Type 0) (old : Cached) (f : ℕ) (c : Cell) : Type 0 where
  pub clean : IsFalse c.dirty
  pub pooled : (file_in old.files f).pool ≡ pool
  pub lacks : Lacks

-- each byte under an extent keeps its place, or was evicted
pub record KeepsUnless (pool : ℕ) (Lacks : Type 0) (old new : Cached) : Type 0 where
  pub each : (f i : ℕ) (c : Cell) → cover (extents_in old.files f) i ≡ Some c
      → (cover (extents_in new.files f) i ≡ Some c) ⊎ GaveWay pool Lacks old f c

-- each byte under an extent that is not one of the n bytes of file f from `at` on keeps its place, or was evicted
pub record KeepsBeside (f at n pool : ℕ) (Lacks : Type 0) (old new : Cached) : Type 0 where
  pub each : (g i : ℕ) (c : Cell) → (g ≡ f → (i < at) ⊎ (at + n ≤ i)) → cover (extents_in old.files g) i ≡ Some c
      → (cover (extents_in new.files g) i ≡ Some c) ⊎ GaveWay pool Lacks old g c
