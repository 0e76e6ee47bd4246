-- A range of a file that is read, step by step.
use Rattle.std.specs.Prelude.{◌≡◌, ◌⊎◌, ℕ, ◌≤◌, ◌^◌, List, [], length, All, Some, Result, IfOk, OnErr}
use Rattle.std.specs.Prelude.{IsTrue, IsFalse}
use Rattle.std.specs.Global.{Vec}
use Rattle.iol_core.specs.NumberedLists.{is_numbered}
use Rattle.iol_core.specs.declared.refusals.Refusal.{Refusal}
use Rattle.iol_core.specs.declared.refusals.Refusal.TheVariants.{NoRoom}
use Rattle.iol_back.specs.Disk.{Disk}
use Rattle.iol_extent.specs.Extents.{Extent, begins_at, end_of}
use Rattle.iol_extent.specs.Spans.{Tile}
use Rattle.iol_extent.specs.declared.spans.Span.{Span}
use Rattle.iol_hold.specs.Moves.{Moves, SameLists, Shares}
use Rattle.iol_hold.specs.Places.{places}
use Rattle.iol_hold.specs.Releases.{FreesOnly}
use Rattle.iol_hold.specs.StoreState.{AllReclaimed}
use Rattle.iol_hold.specs.Texts.{bufs_of}
use Rattle.iol_hold.specs.declared.slices.Slice.{Slice}
use Rattle.iol_cache.specs.declared.files.FilePart.{FilePart}
use Rattle.iol_cache.specs.CacheState.{Cached, file_in, extents_in, order_in}
use Rattle.iol_cache.specs.Evictions.{Holding, EvictsAll, GivesUp, HasPages}
use Rattle.iol_cache.specs.Gaps.{gap_pages}
use Rattle.iol_cache.specs.ReadSteps.{CountsHits, FillsFile}
use Rattle.iol_cache.specs.Loads.{PlacesSome}
use Rattle.iol_cache.specs.RangeReads.{SameButRoom}
use Rattle.iol_cache.specs.SharedBytes.{CountsBelow}
use Rattle.iol_cache.specs.Sound.{IsSound}
use Rattle.iol_cache.specs.Weave.{HasSlicesBeside, HasSlicesWoven, places_beside}

-- a range of a file of a sound cache may be read
pub record MayRead (f from to : ℕ) (h : Holding) : Type 0 where
  pub sound : IsSound h.store h.cache
  pub file : IsTrue (is_numbered h.cache.files f)
  pub ordered : from ≤ to
  pub few : CountsBelow h.store (2 ^ 59)

-- A range has these gaps. The bytes outside them were shared, one slice for each slice of an extent that has a byte of
-- a part between two gaps. The hits were counted, and the gaps have room in the file and in the order.
pub record PinsRange (f from to : ℕ) (old new : Holding) (pins : List Slice) (gaps : List Span) : Type 0 where
  pub hits : List Span
  pub tile : Tile (extents_in old.cache.files f) from to hits gaps
  pub lies : places pins ≡ places_beside (extents_in old.cache.files f) from to gaps
  pub parts : HasSlicesBeside (extents_in old.cache.files f) from to gaps pins
  pub shares : Shares old.store new.store [] (bufs_of pins)
  pub reserved : Cached
  pub rooms : SameButRoom old.cache reserved
  pub counted : CountsHits f hits reserved new.cache
  pub space : length gaps ≤ (file_in new.cache.files f).extents.room
  pub entries : length gaps ≤ (order_in new.cache.orders (file_in new.cache.files f).pool).room

-- The hits of a part of a file were shared and counted, and its gaps are returned; or, after an error, the references
-- are unchanged, and nothing in the cache changed except the reserved room. The cache is sound, pages were at most
-- freed, and no pool's list changed.
pub record SharesHits {E : Type 0} (part : FilePart) (old new : Holding) (r : Result (List Slice × Vec Span) E) :
    Type 0 where
  pub pinned : IfOk r (λ x. PinsRange part.file part.from part.to old new x.0 x.1.items)
  pub sound : IsSound new.store new.cache
  pub same : OnErr r (SameButRoom old.cache new.cache)
  pub none : OnErr r (Moves old.store new.store [] [])
  pub frees : FreesOnly old.store new.store
  pub lists : SameLists old.store new.store
  pub reclaims : AllReclaimed old.store → AllReclaimed new.store

-- a clean extent is over exactly this span
pub record IsCleanSpan (es : List Extent) (s : Span) : Type 0 where
  pub extent : Extent
  pub begins : begins_at es s.from ≡ Some extent
  pub ends : end_of extent ≡ s.to
  pub clean : IsFalse extent.dirty

-- No byte was missing: the range consists of the shared slices, and nothing else was done.
pub record IsAllShared (pins : List Slice) (gaps : List Span) (old new : Holding) (xs : List Slice) : Type 0 where
  pub none : gaps ≡ []
  pub all : xs ≡ pins
  pub same : new ≡ old

-- Room was made for the gaps, they were read and are clean extents, the range was assembled from them and from the
-- shared bytes outside them, and those were released.
pub record FillsAfter (f from to : ℕ) (pins : List Slice) (gaps : List Span) (disk : Disk) (old new : Holding)
    (xs : List Slice) : Type 0 where
  pub mid : Holding
  pub victims : EvictsAll (file_in old.cache.files f).pool (Some (gap_pages gaps)) old mid
  pub less : GivesUp old mid
  pub full : Holding
  pub fills : FillsFile f from to (places pins) gaps disk mid full xs
  pub parts : HasSlicesWoven pins (extents_in new.cache.files f) from to gaps xs
  pub stand : All (IsCleanSpan (extents_in new.cache.files f)) gaps
  pub cache : new.cache ≡ full.cache
  pub released : Moves full.store new.store (bufs_of pins) []
  pub frees : FreesOnly full.store new.store

-- The range is complete: from the shared slices only, or with its gaps.
abbrev pub CompletesRange : (f from to : ℕ) → List Slice → List Span → Disk → (old new : Holding) → List Slice → Type 0
CompletesRange f from to pins gaps disk old new xs =
    IsAllShared pins gaps old new xs ⊎ FillsAfter f from to pins gaps disk old new xs

-- Room was made for the gaps. The gaps that were read and the shared bytes outside them are released. Extents were
-- evicted, and pages filled, only if the gaps' pages could be made free, and not if there is no room.
pub record UndoesAfter (f : ℕ) (pins : List Slice) (gaps : List Span) (old new : Holding) (x : Refusal) : Type 0 where
  pub mid : Holding
  pub victims : EvictsAll (file_in old.cache.files f).pool (Some (gap_pages gaps)) old mid
  pub less : GivesUp old mid
  pub full : Holding
  pub met : HasPages (file_in old.cache.files f).pool (gap_pages gaps) old ⊎ (full ≡ old)
  pub kept : (p : ℕ) → x ≡ NoRoom p → full ≡ old
  pub same : SameButRoom mid.cache full.cache
  pub moves : Moves mid.store full.store [] []
  pub placed : PlacesSome mid.store full.store (file_in old.cache.files f).pool (gap_pages gaps)
  pub lists : SameLists mid.store full.store
  pub cache : new.cache ≡ full.cache
  pub released : Moves full.store new.store (bufs_of pins) []
  pub frees : FreesOnly full.store new.store
