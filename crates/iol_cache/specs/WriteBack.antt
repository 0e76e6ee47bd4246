-- Dirty extents that are written back.
use Rattle.std.specs.Prelude.{Bool, ◌≡◌, ℕ, zero, suc, ◌+◌, ◌-◌, ◌<◌, ◌≤◌, ◌^◌, ◌⊎◌, true, false, if◌then◌else◌, List}
use Rattle.std.specs.Prelude.{[], ◌∷◌, map, length, max, slice_index, Result, Ok, Err, IfErr, IfSome, OnErr, OnOk, Some}
use Rattle.std.specs.Prelude.{None, IsTrue, ◌≢◌}
use Rattle.iol_back.specs.Disk.{Disk, IfHonest, OthersStay, Succeeds, Tears, content}
use Rattle.iol_back.specs.Prelude.{raised}
use Rattle.iol_core.specs.NumberedLists.{is_numbered}
use Rattle.iol_core.specs.Prelude.{FaultOf}
use Rattle.iol_core.specs.Text as text
use Rattle.iol_core.specs.declared.refusals.Refusal.{Refusal}
use Rattle.iol_core.specs.declared.refusals.Refusal.TheVariants.{Fault}
use Rattle.iol_evict.specs.Order.{Ranking, entered, with_one_given_back}
use Rattle.iol_extent.specs.Extents.{Extent, ExtentMap, IsApart, IsFirstDirty, as_clean, begins_at, cleaned_at}
use Rattle.iol_extent.specs.Extents.{dirty_in}
use Rattle.iol_hold.specs.Places.{byte_len}
use Rattle.iol_hold.specs.StoreState.{Stored}
use Rattle.iol_hold.specs.Texts.{AllReadable, text_of}
use Rattle.iol_hold.specs.declared.slices.Slice.{Slice}
use Rattle.iol_cache.specs.Cache.{cached_of}
use Rattle.iol_cache.specs.CacheState.{Cached, extents_in, file_in, order_in, parts_in, with_file, with_order}
use Rattle.iol_cache.specs.Contents.{Mirrors, bytes_in_slot}
use Rattle.iol_cache.specs.Marks.{AreWithin, HasMarksLeft}
use Rattle.iol_cache.specs.RangeReads.{RanksFile}
use Rattle.iol_cache.specs.Replacement.{IsReady, Reindexes}
use Rattle.iol_cache.specs.SharedBytes.{CountsBelow}
use Rattle.iol_cache.specs.Sound.{IsSound}
use Rattle.iol_cache.specs.declared.cache.Cache.{Cache}
use Rattle.iol_cache.specs.declared.sync.Flushed.{Flushed}
use Rattle.iol_cache.specs.declared.sync.Flushed.TheVariants.{Nothing, Wrote}

-- Bytes of the store.

-- the bytes are in the file from a place on, and all others are unchanged
pub record Stores (at : ℕ) (bytes old new : List ℕ) : Type 0 where
  pub beside : (i : ℕ) → (i < at) ⊎ (at + length bytes ≤ i) → slice_index new i ≡ slice_index old i
  pub inside : (i : ℕ) → i < length bytes → slice_index new (at + i) ≡ slice_index bytes i
  pub no_shorter : length old ≤ length new
  pub no_longer : length new ≤ max (length old) (at + length bytes)
  pub reaches : 0 < length bytes → at + length bytes ≤ length new

-- writes were made, and the first that failed ended them
abbrev pub WriteCounts : {A E : Type 0} → (old new : Disk) → Result A E → Type 0
WriteCounts old new (Ok x) = Succeeds old new
WriteCounts old new (Err e) = new.failures ≡ raised old.failures

-- slices that have bytes, which can be read, and which end below byte 2^32 of a file, from a place on
pub record MayWriteBack (s : Stored) (at : ℕ) (xs : List Slice) : Type 0 where
  pub some : 0 < byte_len xs
  pub fits : at + byte_len xs < 2 ^ 32
  pub readable : AllReadable s xs

-- The bytes of these slices were written to a file from a place on, slice by slice. If a write failed, the bytes in
-- their range are arbitrary.
pub record WritesBack {A E : Type 0} (file at : ℕ) (s : Stored) (xs : List Slice) (old new : Disk)
    (r : Result A E) : Type 0 where
  pub honest : new.honest ≡ old.honest
  pub counts : WriteCounts old new r
  pub others : IfHonest old (OthersStay file old.slots new.slots)
  pub stored : let bytes = text.bytes_of (text_of s xs) in
      IfHonest old (OnOk r (Stores at bytes (content old.slots file) (content new.slots file)))
  pub torn : let bytes = text.bytes_of (text_of s xs) in
      IfHonest old (OnErr r (Tears at (length bytes) (content old.slots file) (content new.slots file)))

-- Extents that become clean.

-- the first n dirty extents are clean
abbrev pub first_cleaned : (n : ℕ) → List Extent → List Extent
first_cleaned zero es = es
first_cleaned (suc n) [] = []
first_cleaned (suc n) (e ∷ es) = if e.dirty then as_clean e ∷ first_cleaned n es else e ∷ first_cleaned (suc n) es

abbrev pub all_cleaned : List Extent → List Extent
all_cleaned es = map as_clean es

-- Facts that a write to an honest store leaves unchanged.

-- every file keeps its bytes
pub record SameContents (s : Stored) (old new : Cached) (d e : Disk) : Type 0 where
  pub each : (f : ℕ) → bytes_in_slot s e.slots new.files f ≡ bytes_in_slot s d.slots old.files f

abbrev pub KeepsBytes : (s : Stored) (old new : Cached) (d e : Disk) → Type 0
KeepsBytes s old new d e = IfHonest d (SameContents s old new d e)

-- the store has the same bytes under clean extents, if it had before
abbrev pub KeepsStored : (s : Stored) (old new : Cached) (d e : Disk) → Type 0
KeepsStored s old new d e = IfHonest d (Mirrors s d.slots old.files → Mirrors s e.slots new.files)

pub record KeepsContents (s : Stored) (old new : Cached) (d e : Disk) : Type 0 where
  pub bytes : KeepsBytes s old new d e
  pub stored : KeepsStored s old new d e

-- The first dirty extent of a file is written back.

-- The first dirty extent of a file begins at a place, and may become clean there: the order has the clean ones and a
-- place for each dirty one, and its pages can be marked.
pub record MayReclaim (f at : ℕ) (old : ExtentMap) (r : Ranking) (marks : List ℕ) : Type 0 where
  pub apart : IsApart 0 old.extents
  pub dirty : IsFirstDirty old.extents at
  pub ranked : RanksFile r f old.extents
  pub ready : IsReady r old.extents
  pub within : AreWithin (length marks) (parts_in (begins_at old.extents at))
  pub few : HasMarksLeft marks (parts_in (begins_at old.extents at))

-- The first dirty extent of a file became clean, is marked, and entered the order with the height of a new entry.
pub record Reclaims (f at : ℕ) (old new : ExtentMap) (r t : Ranking) (marks marked : List ℕ) : Type 0 where
  pub extents : new.extents ≡ cleaned_at old.extents at
  pub apart : IsApart 0 new.extents
  pub follows : Reindexes f old.extents new.extents r t marks marked
  pub order : IfSome (dirty_in old.extents) (λ e. t ≡ entered (with_one_given_back r) f e.at (byte_len e.parts) 1)

-- the first dirty extent of a file was written, is clean, and entered the order with the height of a new entry
pub record Cleans (s : Stored) (f : ℕ) (old new : Cached) (d e : Disk) : Type 0 where
  pub extent : Extent
  pub first : dirty_in (extents_in old.files f) ≡ Some extent
  pub extents : ExtentMap
  pub order : Ranking
  pub is : extents.extents ≡ cleaned_at (extents_in old.files f) extent.at
  pub apart : IsApart 0 extents.extents
  pub files : new.files ≡ with_file old.files f (record { pool = (file_in old.files f).pool; extents = extents })
  pub orders : new.orders ≡ with_order old.orders (file_in old.files f).pool order
  pub ranks : order ≡ entered (with_one_given_back (order_in old.orders (file_in old.files f).pool)) f extent.at
      (byte_len extent.parts) 1
  pub follows : Reindexes f (extents_in old.files f) extents.extents
      (order_in old.orders (file_in old.files f).pool) order old.marks new.marks
  pub honest : e.honest ≡ d.honest
  pub counts : Succeeds d e
  pub others : IfHonest d (OthersStay f d.slots e.slots)
  pub stored :
      IfHonest d (Stores extent.at (text.bytes_of (text_of s extent.parts)) (content d.slots f) (content e.slots f))

-- the store failed, and the extent is dirty as before
pub record Fails (f : ℕ) (old new : Cached) (d e : Disk) : Type 0 where
  pub extent : Extent
  pub first : dirty_in (extents_in old.files f) ≡ Some extent
  pub same : new ≡ old
  pub honest : e.honest ≡ d.honest
  pub counts : e.failures ≡ raised d.failures
  pub others : IfHonest d (OthersStay f d.slots e.slots)
  pub torn : IfHonest d (Tears extent.at (byte_len extent.parts) (content d.slots f) (content e.slots f))

-- or no extent is dirty, and nothing was done
pub record IsClean (f : ℕ) (old new : Cached) (d e : Disk) : Type 0 where
  pub none : dirty_in (extents_in old.files f) ≡ None
  pub same : new ≡ old
  pub disk : e ≡ d

abbrev pub StoresFirst : (s : Stored) (f : ℕ) (old new : Cached) (d e : Disk) → Result Bool Refusal → Type 0
StoresFirst s f old new d e (Ok true) = Cleans s f old new d e
StoresFirst s f old new d e (Ok false) = IsClean f old new d e
StoresFirst s f old new d e (Err x) = Fails f old new d e × (x ≡ Fault f)

-- a file of a sound cache may be written back: each buffer is held fewer than 2^61 times
pub record MaySync (s : Stored) (f : ℕ) (c : Cached) : Type 0 where
  pub sound : IsSound s c
  pub file : IsTrue (is_numbered c.files f)
  pub few : CountsBelow s (2 ^ 61)

-- Its first dirty extent was written back, or not: each file keeps its bytes, and the cache is sound.
pub record WritesFirst (s : Stored) (f : ℕ) (old new : Cached) (d e : Disk) (r : Result Bool Refusal) : Type 0 where
  pub stores : StoresFirst s f old new d e r
  pub keeps : KeepsContents s old new d e
  pub sound : IsSound s new

-- n extents of a file were written back, one after another
abbrev pub AreCleaned : (s : Stored) (f n : ℕ) (old new : Cached) (d e : Disk) → Type 0
AreCleaned s f zero old new d e = (new ≡ old) × (e ≡ d)
AreCleaned s f (suc n) old new d e = (mid : Cached) × (m : Disk) × AreCleaned s f n old mid d m × Cleans s f mid new m e

-- no dirty extent is left, or the store failed
abbrev pub EndsSync : {A : Type 0} → (f : ℕ) (old new : Cached) (d e : Disk) → Result A Refusal → Type 0
EndsSync f old new d e (Ok x) = IsClean f old new d e
EndsSync f old new d e (Err x) = Fails f old new d e × (x ≡ Fault f)

-- The dirty extents of a file were written back, one after another, until no dirty extent was left or the store failed.
pub record WritesDirty {A : Type 0} (s : Stored) (f : ℕ) (old new : Cached) (d e : Disk) (r : Result A Refusal) :
    Type 0 where
  pub count : ℕ
  pub mid : Cached
  pub disk : Disk
  pub each : AreCleaned s f count old mid d disk
  pub ends : EndsSync f mid new disk e r

-- Dirty extents of a file are written back, in the order of offsets.

-- the first ones are clean, and no other file changed
pub record Syncs (s : Stored) (f : ℕ) (old new : Cached) (d e : Disk) : Type 0 where
  pub count : ℕ
  pub extents : extents_in new.files f ≡ first_cleaned count (extents_in old.files f)
  pub others : (g : ℕ) → g ≢ f → file_in new.files g ≡ file_in old.files g
  pub pools : (g : ℕ) → (file_in new.files g).pool ≡ (file_in old.files g).pool
  pub files : length new.files ≡ length old.files
  pub honest : e.honest ≡ d.honest
  pub contents : KeepsBytes s old new d e
  pub mirrors : KeepsStored s old new d e

-- no extent of the files 1 to n is dirty
pub record AllClean (n : ℕ) (c : Cached) : Type 0 where
  pub each : (f : ℕ) → 0 < f → f ≤ n → dirty_in (extents_in c.files f) ≡ None

-- The dirty extent of least file and offset was written back, or there is none.
abbrev pub Flushes : (s : Stored) (old new : Cached) (d e : Disk) → Result Flushed Refusal → Type 0
Flushes s old new d e (Ok Nothing) = AllClean (length old.files) old × (new ≡ old) × (e ≡ d)
Flushes s old new d e (Ok (Wrote f)) = AllClean (f - 1) old × Cleans s f old new d e
Flushes s old new d e (Err (Fault f)) = AllClean (f - 1) old × Fails f old new d e
Flushes s old new d e (Err x) = ⊥

-- The calls.

-- The dirty extents of a file were written back, in the order of offsets, and the written extents are clean: all of
-- them, or those before one at which the store failed; then the result is a fault at the file. Over an honest store
-- each file keeps its bytes. The cache is sound.
pub record WritesAll {A : Type 0} (f : ℕ) (s : Stored) (old new : Cache) (d e : Disk)
    (r : Result A Refusal) : Type 0 where
  -- the extents that became clean
  pub writes : WritesDirty s f (cached_of old) (cached_of new) d e r
  pub clean : OnOk r (dirty_in (extents_in (cached_of new).files f) ≡ None)
  pub syncs : Syncs s f (cached_of old) (cached_of new) d e
  -- the bytes of files, and the invariant
  pub files : KeepsBytes s (cached_of old) (cached_of new) d e
  pub mirrors : KeepsStored s (cached_of old) (cached_of new) d e
  pub sound : IsSound s (cached_of new)
  -- refusals
  pub fails : OnErr r (e.failures ≡ raised d.failures)
  pub succeeds : OnOk r (e.failures ≡ d.failures)
  pub late : IfErr r (FaultOf f)

-- The dirty extent with the least file and offset was written back, if there is one, or the store failed at it. Over an
-- honest store each file keeps its bytes. The cache is sound.
pub record WritesOne (s : Stored) (old new : Cache) (d e : Disk) (r : Result Flushed Refusal) : Type 0 where
  pub flushes : Flushes s (cached_of old) (cached_of new) d e r
  pub files : KeepsBytes s (cached_of old) (cached_of new) d e
  pub mirrors : KeepsStored s (cached_of old) (cached_of new) d e
  pub sound : IsSound s (cached_of new)
