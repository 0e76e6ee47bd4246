-- The effects of a write on files and on extents.
use Rattle.std.specs.Prelude.{◌≡◌, ◌≢◌, ◌⊎◌, ℕ, ◌+◌, ◌<◌, ◌≤◌, ◌^◌, ◌++◌, List, length, Option, Some, None}
use Rattle.std.specs.Prelude.{Result, Err, IfErr, OnErr, OnOk, IsTrue}
use Rattle.iol_back.specs.Disk.{overwritten}
use Rattle.iol_core.specs.Meaning.{WantOfRoom}
use Rattle.iol_core.specs.NumberedLists.{is_numbered}
use Rattle.iol_core.specs.Text as text
use Rattle.iol_core.specs.declared.limits.TheConstants.{MAX_FILE_BYTES}
use Rattle.iol_core.specs.declared.refusals.Refusal.{Refusal}
use Rattle.iol_core.specs.declared.refusals.Refusal.TheVariants.{NoRoom}
use Rattle.iol_extent.specs.Extents.{Cell, Extent, cover}
use Rattle.iol_hold.specs.Moves.{Covers, Moves, SameLists}
use Rattle.iol_hold.specs.Places.{byte_len, places}
use Rattle.iol_hold.specs.Room.{free_of}
use Rattle.iol_hold.specs.StoreState.{AllReclaimed, Stored}
use Rattle.iol_hold.specs.Texts.{AllReadable, bufs_of, text_of}
use Rattle.iol_hold.specs.declared.slices.Slice.{Slice}
use Rattle.iol_cache.specs.declared.cache.Cache.{Cache}
use Rattle.iol_cache.specs.Cache.{cached_of, holding}
use Rattle.iol_cache.specs.CacheState.{Cached, extents_in, file_in, held}
use Rattle.iol_cache.specs.Composition.{KeepsOwn, copied_pages}
use Rattle.iol_cache.specs.Contents.{Mirrors, SameFiles, bytes_in_slot}
use Rattle.iol_cache.specs.Evictions.{EvictsAll, GivesUp, HasPages, Holding}
use Rattle.iol_cache.specs.Loads.{PlacesOrReleases, PlacesSome}
use Rattle.iol_cache.specs.PageChanges.{FillsLowest}
use Rattle.iol_cache.specs.Preparation.{Prepares}
use Rattle.iol_cache.specs.RangeReads.{SameButRoom}
use Rattle.iol_cache.specs.Replacement.{HasPlaces, indexing_in}
use Rattle.iol_cache.specs.ReadResults.{LacksPages}
use Rattle.iol_cache.specs.SharedBytes.{CountsBelow, places_over}
use Rattle.iol_cache.specs.Sound.{IsSound}
use Rattle.iol_cache.specs.Writes.{PutsOver}

-- the bytes of a file
abbrev pub bytes_in : Holding → (slots : List (List ℕ)) → (f : ℕ) → List ℕ
bytes_in h slots f = bytes_in_slot h.store slots h.cache.files f

-- under clean extents the store has the same bytes
abbrev pub MirrorsIn : Holding → (slots : List (List ℕ)) → Type 0
MirrorsIn h slots = Mirrors h.store slots h.cache.files

-- the bytes of the source are in the file from a place on, which is at most its end
pub record IsWritten (f at : ℕ) (source : List Slice) (old new : Holding) : Type 0 where
  pub each : (slots : List (List ℕ)) → MirrorsIn old slots → at ≤ length (bytes_in old slots f)
      → bytes_in new slots f ≡ overwritten at (text.bytes_of (text_of old.store source)) (bytes_in old slots f)

-- every other file has the bytes that it had
pub record KeepsOthers (f : ℕ) (old new : Holding) : Type 0 where
  pub each : (slots : List (List ℕ)) → MirrorsIn old slots → (g : ℕ) → g ≢ f
      → bytes_in new slots g ≡ bytes_in old slots g

-- every file has the bytes that it had
pub record KeepsFiles (old new : Holding) : Type 0 where
  pub each : (slots : List (List ℕ)) → MirrorsIn old slots
      → SameFiles old.store old.cache.files new.store new.cache.files slots

-- the store has the same bytes under clean extents, if it had before
pub record KeepsMirrors (old new : Holding) : Type 0 where
  pub each : (slots : List (List ℕ)) → MirrorsIn old slots → MirrorsIn new slots

abbrev pub is_dirty : Option Cell → Type 0
is_dirty None = ⊥
is_dirty (Some c) = IsTrue c.dirty

-- The bytes of a range are under dirty extents; those of the source in the file's pool are in the same places.
pub record LiesDirty (f at : ℕ) (source : List Slice) (cache : Cached) : Type 0 where
  pub dirty : (i : ℕ) → at ≤ i → i < at + byte_len source → is_dirty (cover (extents_in cache.files f) i)
  pub own : KeepsOwn (file_in cache.files f).pool (places source)
      (places_over (extents_in cache.files f) at (at + byte_len source))

-- Room for extents and entries was reserved, and clean extents of the pool's files were evicted, if needed, until n
-- pages were free.
pub record MakesRoom (pool n : ℕ) (old new : Holding) : Type 0 where
  pub reserved : Cached
  pub rooms : SameButRoom old.cache reserved
  pub victims : EvictsAll pool (Some n) (record { store = old.store; cache = reserved }) new
  pub gives_up : GivesUp (record { store = old.store; cache = reserved }) new

-- no page, extent, entry or height changed: at most room for extents and entries was reserved
pub record LeavesAll (old new : Holding) : Type 0 where
  pub store : new.store ≡ old.store
  pub same : SameButRoom old.cache new.cache

-- Room was made, and nothing else changed: bytes placed in the pool are released. Extents were evicted, and pages
-- filled, only if n pages could be made free.
pub record OnlyMakesRoom (pool n : ℕ) (old new : Holding) : Type 0 where
  pub mid : Holding
  pub room : MakesRoom pool n old mid
  pub placed : PlacesSome mid.store new.store pool n
  pub cache : new.cache ≡ mid.cache
  pub met : HasPages pool n old ⊎ LeavesAll old new

-- The bytes of the source and the parts on both sides of them were prepared, and replaced the extents that the range
-- met.
pub record Overwrites (f at : ℕ) (source : List Slice) (old new : Holding) : Type 0 where
  pub left : Extent
  pub right : Extent
  pub bytes : Extent
  pub ready : Stored
  pub prepares : Prepares old.store ready (file_in old.cache.files f).pool
      (extents_in old.cache.files f) at source left right bytes
  pub puts : PutsOver f (record { from = at; to = at + byte_len source })
      (record { left = left; right = right; bytes = bytes }) (record { store = ready; cache = old.cache }) new

-- room was made, and then the range was overwritten
pub record WritesFile (f at : ℕ) (source : List Slice) (old new : Holding) : Type 0 where
  pub mid : Holding
  pub room : let p = (file_in old.cache.files f).pool in MakesRoom p (copied_pages p source) old mid
  pub over : Overwrites f at source mid new

-- Conditions and effects of calls that write.

-- the pool of a file
abbrev pub pool_of : Cache → (f : ℕ) → ℕ
pool_of c f = (file_in c.files.items f).pool

-- the number of pages of a file's pool that the bytes of a source need, if those of other pools are copied
abbrev pub pages_copied : Cache → (f : ℕ) → List Slice → ℕ
pages_copied c f source = copied_pages (pool_of c f) source

-- Room may be made for a write of these bytes to a file: the cache is sound and has the file, and they are no more than
-- a file may have.
pub record MayMakePlace (f : ℕ) (source : List Slice) (h : Holding) : Type 0 where
  pub sound : IsSound h.store h.cache
  pub file : IsTrue (is_numbered h.cache.files f)
  pub small : byte_len source ≤ MAX_FILE_BYTES

-- Room was made for a write of these bytes to a file, for three extents, for their entries, and in the file's pool for
-- the pages of the copied bytes; or no page, extent, entry or height changed. The error is for lack of memory or of
-- room in that pool, and for lack of room only if pinned pages and those for the copies are more than the pool has. The
-- cache is sound.
pub record MakesPlace {A : Type 0} (f : ℕ) (source : List Slice) (s : Stored) (c : Cache) (t : Stored) (d : Cache)
    (r : Result A Refusal) : Type 0 where
  pub room : MakesRoom (pool_of c f) (pages_copied c f source) (holding s c) (holding t d)
  pub free : OnOk r (pages_copied c f source ≤ length (free_of t (pool_of c f)))
  pub fits : OnOk r (HasPages (pool_of c f) (pages_copied c f source) (holding s c))
  pub lacks : (q : ℕ) → r ≡ Err (NoRoom q) → LacksPages (pool_of c f) (pages_copied c f source) (holding s c)
  pub kept : OnErr r (LeavesAll (holding s c) (holding t d))
  pub late : IfErr r (WantOfRoom (pool_of c f))
  pub places : OnOk r (HasPlaces 3 (indexing_in (cached_of d) f))
  pub sound : IsSound t (cached_of d)

-- The bytes of a source may be written over those of a file of a sound cache from a place on: they end within the
-- greatest length of a file, can be read, and are held in addition to all that the cache holds. Each buffer is held
-- fewer than 2 ^ 60 times.
pub record MayWrite (f at : ℕ) (source : List Slice) (h : Holding) : Type 0 where
  pub sound : IsSound h.store h.cache
  pub file : IsTrue (is_numbered h.cache.files f)
  pub short : at + byte_len source ≤ MAX_FILE_BYTES
  pub held : Covers h.store (held h.cache.files ++ bufs_of source)
  pub readable : AllReadable h.store source
  pub few : CountsBelow h.store (2 ^ 60)

-- The bytes of a source may be written, there is one at least, and there is room for three extents of the file and
-- their entries.
pub record MayOverwrite (f at : ℕ) (source : List Slice) (h : Holding) : Type 0 where
  pub may : MayWrite f at source h
  pub some : 0 < byte_len source
  pub places : HasPlaces 3 (indexing_in h.cache f)

-- The bytes of a source were written over those of a file from a place on. After an error, for lack of room or memory,
-- the cache is unchanged, and the placed bytes are released. The cache is sound.
pub record OverwritesOrReleases {A : Type 0} (f at : ℕ) (source : List Slice) (s : Stored) (c : Cache) (t : Stored)
    (d : Cache)
    (r : Result A Refusal) : Type 0 where
  pub overwrites : OnOk r (Overwrites f at source (holding s c) (holding t d))
  pub same : OnErr r (d ≡ c)
  pub leaves : PlacesOrReleases (pool_of c f) (pages_copied c f source) s t r
  pub late : IfErr r (WantOfRoom (pool_of c f))
  pub sound : IsSound t (cached_of d)

-- The bytes of a source were written over those of a file from a place on. If there are no bytes, nothing changed.
-- After an error every file keeps its bytes.
pub record Writes {A : Type 0} (f at : ℕ) (source : List Slice) (s : Stored) (c : Cache) (t : Stored) (d : Cache)
    (r : Result A Refusal) : Type 0 where
  -- The bytes of files.
  pub written : OnOk r (IsWritten f at source (holding s c) (holding t d))
  pub others : KeepsOthers f (holding s c) (holding t d)
  pub refused : OnErr r (KeepsFiles (holding s c) (holding t d))
  pub mirrors : KeepsMirrors (holding s c) (holding t d)
  -- The new extents.
  pub lies : OnOk r (LiesDirty f at source (cached_of d))
  pub writes : 0 < byte_len source → OnOk r (WritesFile f at source (holding s c) (holding t d))
  pub evicts : OnErr r (OnlyMakesRoom (pool_of c f) (pages_copied c f source) (holding s c) (holding t d))
  pub nothing : byte_len source ≡ 0 → holding t d ≡ holding s c
  -- It succeeds only if the pages can be made free, and is refused for lack of room only if they cannot: then nothing
  -- changes. Any other error is for lack of memory.
  pub room : OnOk r (HasPages (pool_of c f) (pages_copied c f source) (holding s c))
  pub no_room : (q : ℕ) → r ≡ Err (NoRoom q) → LacksPages (pool_of c f) (pages_copied c f source) (holding s c)
  pub kept : (q : ℕ) → r ≡ Err (NoRoom q) → LeavesAll (holding s c) (holding t d)
  pub late : IfErr r (WantOfRoom (pool_of c f))
  -- References change only with the extents, live buffers keep their bytes, and the lowest free pages of the pool are
  -- filled.
  pub moves : Moves s t (held c.files.items) (held d.files.items)
  pub pages : FillsLowest (pool_of c f) s t
  pub lists : SameLists s t
  pub reclaims : AllReclaimed s → AllReclaimed t
  pub sound : IsSound t (cached_of d)
