-- The effects of a read of a file on a store and a cache over it.
use Rattle.std.specs.Prelude.{◌≡◌, ◌⊎◌, ℕ, ◌+◌, ◌<◌, ◌≤◌, min, max, List, [], length, take, drop, Result, Ok, Err}
use Rattle.std.specs.Prelude.{IfOk, IfErr, OnErr, IsTrue, ⊤}
use Rattle.iol_core.specs.NumberedLists.{is_numbered}
use Rattle.iol_core.specs.Prelude.{WantOfRoomOrFault}
use Rattle.iol_core.specs.declared.limits.TheConstants.{MAX_FILE_BYTES}
use Rattle.iol_core.specs.declared.refusals.Refusal.{Refusal}
use Rattle.iol_core.specs.declared.refusals.Refusal.TheVariants.{NoRoom, Fault, Memory}
use Rattle.iol_back.specs.Disk.{Disk, IfHonest, content, last_failure, length_reported}
use Rattle.iol_back.specs.Prelude.{raised}
use Rattle.iol_extent.specs.Extents.{last_end}
use Rattle.iol_extent.specs.declared.spans.Span.{Span}
use Rattle.iol_hold.specs.Moves.{Moves}
use Rattle.iol_hold.specs.Places.{places}
use Rattle.iol_hold.specs.Releases.{FreesOnly}
use Rattle.iol_hold.specs.Room.{pages_of}
use Rattle.iol_hold.specs.StoreState.{Stored}
use Rattle.iol_hold.specs.Texts.{AllReadable, bufs_of}
use Rattle.iol_hold.specs.declared.slices.Slice.{Slice}
use Rattle.iol_cache.specs.CacheState.{Cached, clean_held, extents_in, file_in}
use Rattle.iol_cache.specs.Contents.{Mirrors, bytes_in_slot}
use Rattle.iol_cache.specs.Evictions.{HasPages, Holding}
use Rattle.iol_cache.specs.Gaps.{gap_pages}
use Rattle.iol_cache.specs.ReadSteps.{Goes, HasRoom, LacksRoom}
use Rattle.iol_cache.specs.Loads.{Asks}
use Rattle.iol_cache.specs.PinnedPages.{pinned_beside}
use Rattle.iol_cache.specs.Ranges.{CompletesRange, FillsAfter, PinsRange, UndoesAfter}
use Rattle.iol_cache.specs.RangeReads.{SameButRoom}
use Rattle.iol_cache.specs.Sound.{IsSound}
use Rattle.iol_cache.specs.Weave.{places_read, slices_read}

-- A call that needs pages is refused for lack of room only if it lacks room. It succeeds, or returns a fault, only if
-- it has room.
abbrev pub ReportsRoom : {A : Type 0} → (has lacks : Type 0) → Result A Refusal → Type 0
ReportsRoom has lacks (Ok x) = has
ReportsRoom has lacks (Err (Fault f)) = has
ReportsRoom has lacks (Err (NoRoom p)) = lacks
ReportsRoom has lacks (Err x) = ⊤

-- a failure was counted exactly if the result is a fault
abbrev pub FaultCounts : {A : Type 0} → (old new : Disk) → Result A Refusal → Type 0
FaultCounts old new (Ok x) = new.failures ≡ old.failures
FaultCounts old new (Err (Fault f)) = new.failures ≡ raised old.failures
FaultCounts old new (Err x) = new.failures ≡ old.failures

-- The store was read, so an honest one keeps its bytes. The result is a fault exactly if one more failure was counted.
pub record ReportsFault {A : Type 0} (old new : Disk) (r : Result A Refusal) : Type 0 where
  pub honest : new.honest ≡ old.honest
  pub slots : IfHonest old (new.slots ≡ old.slots)
  pub counts : FaultCounts old new r

-- The store is honest, no file of it is too long, and under clean extents it has the same bytes.
pub record IsBacked (disk : Disk) (h : Holding) : Type 0 where
  pub honest : IsTrue disk.honest
  pub short : (f : ℕ) → IsTrue (is_numbered h.cache.files f) → length (content disk.slots f) ≤ MAX_FILE_BYTES
  pub mirrors : Mirrors h.store disk.slots h.cache.files

-- The end of a file for a read: the length that the store reports, up to the limit of files, or the end of the last
-- extent, whichever is greater. An honest store reports the stored length.
pub record IsEnd (disk : Disk) (c : Cached) (f end : ℕ) : Type 0 where
  pub short : end ≤ MAX_FILE_BYTES
  pub is : end ≡ max (min (length_reported disk.reported f) MAX_FILE_BYTES) (last_end (extents_in c.files f))
  pub stored :
      IfHonest disk (end ≡ max (min (length (content disk.slots f)) MAX_FILE_BYTES) (last_end (extents_in c.files f)))

-- n bytes from `at` on, up to the end of the file
pub record Range (disk : Disk) (c : Cached) (f at n : ℕ) : Type 0 where
  pub end : ℕ
  pub ends : IsEnd disk c f end
  pub from : ℕ
  pub begins : from ≡ min at end
  pub to : ℕ
  pub stops : to ≡ min (at + n) end

-- n pages of a pool are not free, and evictions cannot free them
abbrev pub LacksPages : (p n : ℕ) → Holding → Type 0
LacksPages p n h = length (pages_of h.store p) < pinned_beside h.store (clean_held h.cache.files) p + n

-- Room is made for the gaps of a range, if there is room; they are filled, all of them or none, and the range is
-- assembled with the shared bytes outside them, which are released in each case. After the release the cache is sound,
-- and over an honest store every file keeps its bytes.
pub record FillsPinned (f from to : ℕ) (pins : List Slice) (gaps : List Span) (disk after : Disk) (old new : Holding)
    (r : Result (List Slice) Refusal) : Type 0 where
  pub filled : IfOk r (FillsAfter f from to pins gaps disk old new)
  pub undone : IfErr r (UndoesAfter f pins gaps old new)
  pub readable : IfOk r (AllReadable new.store)
  pub goes : IfOk r (λ xs. Goes disk (bufs_of pins) (bufs_of xs) old new)
  pub gone : OnErr r (Goes disk (bufs_of pins) [] old new)
  pub sound : IsSound new.store new.cache
  pub room : let p = (file_in old.cache.files f).pool in
      ReportsRoom (HasPages p (gap_pages gaps) old) (LacksPages p (gap_pages gaps) old) r
  pub asks : Asks (length gaps) disk after r
  pub late : IfErr r (WantOfRoomOrFault (file_in old.cache.files f).pool f)

-- The hits of a range were shared and counted. If there are gaps, extents were evicted to make room for them, and they
-- are clean extents now. Bytes of hits are where they were, and bytes of gaps are in the new extents. There is one
-- slice for each slice of an extent that has a byte of the range, and at most one more for each gap (`pinned` and
-- `completed` state the slices exactly).
pub record ReadsRange (f from to : ℕ) (disk : Disk) (old new : Holding) (xs : List Slice) : Type 0 where
  pub pins : List Slice
  pub gaps : List Span
  pub hit : Holding
  pub pinned : PinsRange f from to old hit pins gaps
  pub completed : CompletesRange f from to pins gaps disk hit new xs
  pub lies : places xs ≡ places_read (extents_in old.cache.files f) (extents_in new.cache.files f) from to gaps
  pub parts :
      length xs ≤ length (slices_read (extents_in old.cache.files f) (extents_in new.cache.files f) from to gaps)
      + length gaps
  pub answers : 0 < length gaps → disk.failures < last_failure

-- The hits of a range were shared and counted, and extents were evicted to make room for its gaps. The gaps that were
-- read and the shared bytes were released. If no byte was missing, the error is neither a fault nor lack of room.
pub record GivesBack (f from to : ℕ) (old new : Holding) (x : Refusal) : Type 0 where
  pub pins : List Slice
  pub gaps : List Span
  pub faults : (g : ℕ) → x ≡ Fault g → 0 < length gaps
  pub roomy : (p : ℕ) → x ≡ NoRoom p → 0 < length gaps
  pub hit : Holding
  pub pinned : PinsRange f from to old hit pins gaps
  pub undone : UndoesAfter f pins gaps hit new x

-- Nothing changed except the reserved room.
pub record ReservesOnly (old new : Holding) : Type 0 where
  pub same : SameButRoom old.cache new.cache
  pub moves : Moves old.store new.store [] []
  pub frees : FreesOnly old.store new.store

-- A read of a range was refused: for lack of memory before its hits were shared, or after that.
abbrev pub LeavesRange : (f from to : ℕ) → (old new : Holding) → Refusal → Type 0
LeavesRange f from to old new x = ((x ≡ Memory) × ReservesOnly old new) ⊎ GivesBack f from to old new x

-- A file was read: n bytes from `at` on, up to its end.
pub record ReadsFile (f at n : ℕ) (disk : Disk) (old new : Holding) (xs : List Slice) : Type 0 where
  pub range : Range disk old.cache f at n
  pub reads : ReadsRange f range.from range.to disk old new xs

-- Such a read was refused so.
pub record RefusesRead (f at n : ℕ) (disk : Disk) (old new : Holding) (x : Refusal) : Type 0 where
  pub range : Range disk old.cache f at n
  pub leaves : LeavesRange f range.from range.to old new x

-- The pages that are pinned while such a read holds its hits, and those that its gaps need, fit the pool.
pub record RoomToRead (f at n : ℕ) (disk : Disk) (old : Holding) : Type 0 where
  pub range : Range disk old.cache f at n
  pub room : HasRoom old.store old.cache f range.from range.to

-- They do not.
pub record NoRoomToRead (f at n : ℕ) (disk : Disk) (old : Holding) : Type 0 where
  pub range : Range disk old.cache f at n
  pub lacks : LacksRoom old.store old.cache f range.from range.to

-- the bytes of a file from `at` on, at most n of them
abbrev pub bytes_read : Stored → (slots : List (List ℕ)) → Cached → (f at n : ℕ) → List ℕ
bytes_read s slots c f at n = take n (drop at (bytes_in_slot s slots c.files f))
