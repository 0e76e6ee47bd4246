-- Clean extents that are evicted, one after another.
use Rattle.std.specs.Prelude.{◌≡◌, ◌≢◌, ◌↔◌, ℕ, zero, suc, ◌+◌, ◌<◌, ◌≤◌, Bool, List, [], ◌∷◌, length}
use Rattle.std.specs.Prelude.{Option, Some, None, MatchOption, IsTrue, IsFalse, ⊤}
use Rattle.std.specs.List.{list_any, AllByRecursion}
use Rattle.iol_core.specs.declared.numbers.BufId.{BufId}
use Rattle.iol_hold.specs.StoreState.{Stored, AllReclaimed, count_of}
use Rattle.iol_hold.specs.Moves.{Moves, Counts, SameLists}
use Rattle.iol_hold.specs.Releases.{FreesOnly}
use Rattle.iol_hold.specs.Room.{free_of, pages_of}
use Rattle.iol_hold.specs.Texts.{bufs_of}
use Rattle.iol_extent.specs.Extents.{Extent, begins_at, cover}
use Rattle.iol_evict.specs.declared.entry.Rank.{Rank}
use Rattle.iol_evict.specs.Victims.{AreUsedBelow, IsVictim}
use Rattle.iol_cache.specs.declared.files.CachedFile.{CachedFile}
use Rattle.iol_cache.specs.Marks.{is_held_beside}
use Rattle.iol_cache.specs.Contents.{Mirrors, SameFiles}
use Rattle.iol_cache.specs.CacheState.{Cached, file_in, extents_in, order_in, parts_at, held, clean_held}
use Rattle.iol_cache.specs.CacheState.{without_extent, with_evicted}
use Rattle.iol_cache.specs.PinnedPages.{pinned_beside}
use Rattle.iol_cache.specs.Sound.{IsSound}

-- a store, and a cache over it
pub record Holding : Type 0 where
  pub store : Stored
  pub cache : Cached

-- n pages of a pool are free, or would be if clean extents were evicted
abbrev pub HasPages : (p n : ℕ) → Holding → Type 0
HasPages p n h = pinned_beside h.store (clean_held h.cache.files) p + n ≤ length (pages_of h.store p)

-- whether anything except clean extents holds a buffer of the extent that begins there
unfoldable pub in_use : Stored → List CachedFile → (f at : ℕ) → Bool
in_use s fs f at = list_any (λ x. is_held_beside s (clean_held fs) x.hold.buf) (parts_at fs f at)

-- the clean extents below this rank in a pool's order are in use
abbrev pub ArePassed : Rank → (p : ℕ) → Holding → Type 0
ArePassed rank p h = AreUsedBelow (in_use h.store h.cache.files) rank (order_in h.cache.orders p).entries

-- the clean extent of the pool's files to evict next, if there is one; those below this rank are in use
pub record FindsVictim (rank : Rank) (p : ℕ) (h : Holding) (victim : Option (ℕ × ℕ)) : Type 0 where
  pub first : let entries = (order_in h.cache.orders p).entries in
      MatchOption victim (entries ≡ []) (IsVictim (in_use h.store h.cache.files) entries)
  pub below : ArePassed rank p h

-- the clean extent that begins at a place of a file
pub record IsCleanAt (fs : List CachedFile) (f at : ℕ) : Type 0 where
  pub extent : Extent
  pub begins : begins_at (extents_in fs f) at ≡ Some extent
  pub clean : IsFalse extent.dirty

-- a clean extent is evicted: its slices are released, and nothing else changes
pub record Evicts (f at : ℕ) (old new : Holding) : Type 0 where
  pub there : IsCleanAt old.cache.files f at
  pub files : new.cache.files ≡ without_extent old.cache.files f at
  pub orders : new.cache.orders ≡ with_evicted old.cache.orders (file_in old.cache.files f).pool f at
  pub moves : Moves old.store new.store (bufs_of (parts_at old.cache.files f at)) []
  pub frees : FreesOnly old.store new.store
  pub lists : SameLists old.store new.store
  pub reclaims : AllReclaimed old.store → AllReclaimed new.store

-- A clean extent is evicted, and the cache is sound. If those of its pool's files below one rank were in use, those
-- below the other are.
pub record EvictsOne (f at : ℕ) (was now : Rank) (old new : Holding) : Type 0 where
  pub evicts : Evicts f at old new
  pub sound : IsSound new.store new.cache
  pub below : let p = (file_in old.cache.files f).pool in ArePassed was p old → ArePassed now p new

-- fewer pages of the pool are free than requested, if a number is requested
abbrev pub IsWanted : (pool : ℕ) → (wanted : Option ℕ) → Stored → Type 0
IsWanted p None s = ⊤
IsWanted p (Some n) s = length (free_of s p) < n

-- the extent of the pool's files to evict next
pub record EvictsNext (p : ℕ) (wanted : Option ℕ) (place : ℕ × ℕ) (old new : Holding) : Type 0 where
  pub wants : IsWanted p wanted old.store
  pub pool : (file_in old.cache.files place.0).pool ≡ p
  pub first : IsVictim (in_use old.store old.cache.files) (order_in old.cache.orders p).entries place
  pub evicts : Evicts place.0 place.1 old new

-- extents of the pool's files that were evicted, the last first, each while pages were missing
abbrev pub AreEvicted : (p : ℕ) → (wanted : Option ℕ) → List (ℕ × ℕ) → (old new : Holding) → Type 0
AreEvicted p wanted [] old new = new ≡ old
AreEvicted p wanted (v ∷ earlier) old new = (mid : Holding) × AreEvicted p wanted earlier old mid
    × EvictsNext p wanted v mid new

pub record EvictsAll (p : ℕ) (wanted : Option ℕ) (old new : Holding) : Type 0 where
  pub places : List (ℕ × ℕ)
  pub each : AreEvicted p wanted places old new

-- all clean extents of the files of the pools 1 to n, pool by pool
abbrev pub EvictsPools : (n : ℕ) → (old new : Holding) → Type 0
EvictsPools zero old new = new ≡ old
EvictsPools (suc n) old new = (mid : Holding) × EvictsPools n old mid × EvictsAll (suc n) None mid new

-- each extent is dirty
abbrev pub AllDirty : List Extent → Type 0
AllDirty es = AllByRecursion (λ e. IsTrue e.dirty) es

-- the files are the same, no new byte is covered, and there is no less room for extents and entries
pub record KeepsPlaces (old new : Cached) : Type 0 where
  pub count : length new.files ≡ length old.files
  pub pools : (f : ℕ) → (file_in new.files f).pool ≡ (file_in old.files f).pool
  pub gaps : (f i : ℕ) → cover (extents_in old.files f) i ≡ None → cover (extents_in new.files f) i ≡ None
  pub rooms : (f : ℕ) → (file_in old.files f).extents.room ≤ (file_in new.files f).extents.room
  pub entries : (p : ℕ) → (order_in old.orders p).room ≤ (order_in new.orders p).room

-- The effect of any evictions: slices of clean extents were released, and every file keeps its bytes.
pub record GivesUp (old new : Holding) : Type 0 where
  pub moves : Moves old.store new.store (held old.cache.files) (held new.cache.files)
  pub clean : Counts old.store new.store (clean_held old.cache.files) (clean_held new.cache.files)
  pub fewer : (b : BufId) → count_of new.store b ≤ count_of old.store b
  pub frees : FreesOnly old.store new.store
  pub lists : SameLists old.store new.store
  pub reclaims : AllReclaimed old.store → AllReclaimed new.store
  pub mirrors : (slots : List (List ℕ)) → Mirrors old.store slots old.cache.files
      → Mirrors new.store slots new.cache.files
  pub files : (slots : List (List ℕ)) → Mirrors old.store slots old.cache.files
      → SameFiles old.store old.cache.files new.store new.cache.files slots
  pub keeps : KeepsPlaces old.cache new.cache

-- Clean extents of the pool's files were evicted until n pages of the pool were free, or all of them if there is no
-- room for n pages.
pub record MakesFree (p n : ℕ) (old new : Holding) (has_room : Bool) : Type 0 where
  pub room : IsTrue has_room ↔ HasPages p n old
  pub free : IsTrue has_room → n ≤ length (free_of new.store p)
  pub victims : EvictsAll p (Some n) old new
  pub gives_up : GivesUp old new
  pub sound : IsSound new.store new.cache

-- All clean extents of the pool's files were evicted: its order is empty, and the other orders are unchanged.
pub record DropsClean (p : ℕ) (old new : Holding) : Type 0 where
  pub none : (order_in new.cache.orders p).entries ≡ []
  pub others : (q : ℕ) → q ≢ p → order_in new.cache.orders q ≡ order_in old.cache.orders q
  pub len : length new.cache.orders ≡ length old.cache.orders
  pub victims : EvictsAll p None old new
  pub gives_up : GivesUp old new
  pub sound : IsSound new.store new.cache

-- Clean extents of the pool's files were evicted, in the order of eviction, while fewer than n pages of the pool were
-- free. The result is whether the pool has room for n pages: if it has, they are free, and if not, nothing changed.
-- Every file keeps its bytes, and the cache is sound.
pub record FreesOrKeeps (p n : ℕ) (old new : Holding) (has_room : Bool) : Type 0 where
  pub room : IsTrue has_room ↔ HasPages p n old
  pub free : IsTrue has_room → n ≤ length (free_of new.store p)
  pub victims : EvictsAll p (Some n) old new
  pub gives_up : GivesUp old new
  pub sound : IsSound new.store new.cache
  pub refused : IsFalse has_room → new ≡ old

-- All clean extents were evicted, pool by pool. Every file keeps its bytes, and the cache is sound.
pub record DropsAll (old new : Holding) : Type 0 where
  pub none : (f : ℕ) → AllDirty (extents_in new.cache.files f)
  pub victims : EvictsPools (length old.cache.orders) old new
  pub gives_up : GivesUp old new
  pub sound : IsSound new.store new.cache
