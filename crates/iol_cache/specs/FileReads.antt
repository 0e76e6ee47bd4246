-- Conditions and effects of reads of files, and their steps on a part of a file.
use Rattle.std.specs.Prelude.{◌≡◌, ℕ, ◌≤◌, ◌^◌, List, [], length, Result, IfErr, IfOk, OnErr, IsTrue}
use Rattle.iol_core.specs.NumberedLists.{is_numbered}
use Rattle.iol_core.specs.Prelude.{WantOfRoomOrFault}
use Rattle.iol_core.specs.Text.{labelled}
use Rattle.iol_core.specs.declared.refusals.Refusal.{Refusal}
use Rattle.iol_back.specs.Disk.{Disk}
use Rattle.iol_extent.specs.declared.spans.Span.{Span}
use Rattle.iol_hold.specs.Places.{byte_len}
use Rattle.iol_hold.specs.StoreState.{Stored}
use Rattle.iol_hold.specs.Texts.{AllReadable, bufs_of, text_of}
use Rattle.iol_hold.specs.declared.slices.Slice.{Slice}
use Rattle.iol_cache.specs.declared.cache.Cache.{Cache}
use Rattle.iol_cache.specs.declared.files.FilePart.{FilePart}
use Rattle.iol_cache.specs.Cache.{cached_of, holding}
use Rattle.iol_cache.specs.CacheState.{Cached, file_in}
use Rattle.iol_cache.specs.Contents.{bytes_in_slot}
use Rattle.iol_cache.specs.Evictions.{Holding}
use Rattle.iol_cache.specs.Gaps.{AreOf}
use Rattle.iol_cache.specs.ReadSteps.{FillsAllOf, Goes}
use Rattle.iol_cache.specs.PageChanges.{FillsLowest}
use Rattle.iol_cache.specs.RangeReads.{MayFill}
use Rattle.iol_cache.specs.ReadResults.{FillsPinned, IsBacked, IsEnd, NoRoomToRead, ReadsFile, RefusesRead, RoomToRead}
use Rattle.iol_cache.specs.ReadResults.{ReportsFault, ReportsRoom, bytes_read}
use Rattle.iol_cache.specs.SharedBytes.{CountsBelow}
use Rattle.iol_cache.specs.Sound.{IsSound}

-- A part of a file may be filled, or is: its gaps are read, and it is assembled from them and from slices that have as
-- many bytes as the part outside the gaps. With pins, room is made for the gaps, and the pins are released at the end.

abbrev pub MayFillPart : FilePart → (gaps : List Span) → (beside : List Slice) → Holding → Type 0
MayFillPart part gaps beside h = MayFill part.file part.from part.to gaps beside h

abbrev pub FillsPart : FilePart → (gaps : List Span) → (beside : List Slice) → (disk after : Disk) → Stored → Cache
    → Stored → Cache → Result (List Slice) Refusal → Type 0
FillsPart part gaps beside disk after s c t d r =
    FillsAllOf part.file part.from part.to gaps beside disk after (holding s c) (holding t d) r

abbrev pub FillsPinnedPart : FilePart → (pins : List Slice) → (gaps : List Span) → (disk after : Disk) → Stored → Cache
    → Stored → Cache → Result (List Slice) Refusal → Type 0
FillsPinnedPart part pins gaps disk after s c t d r =
    FillsPinned part.file part.from part.to pins gaps disk after (holding s c) (holding t d) r

-- The calls.

-- a file of a sound cache may be read: each buffer is held fewer than 2^59 times
pub record MayReadFile (f : ℕ) (h : Holding) : Type 0 where
  pub sound : IsSound h.store h.cache
  pub file : IsTrue (is_numbered h.cache.files f)
  pub few : CountsBelow h.store (2 ^ 59)

-- At most n bytes of a file were read from `at` on, up to the end of the file: if the store backs the cache, the file's
-- own bytes. Or the read was refused: for lack of room only if there is none, for lack of memory, or by a fault of the
-- store. In each case the cache is sound, and over an honest store every file keeps its bytes. Except for extents, only
-- the result holds new references.
pub record ServesRead (f at n : ℕ) (disk : Disk) (s : Stored) (c : Cache) (r : Result (List Slice) Refusal)
    (after : Disk)
    (t : Stored) (d : Cache) : Type 0 where
  -- the bytes that are read
  pub text : IsBacked disk (holding s c)
      → IfOk r
      (λ a. text_of t a ≡ labelled (file_in (cached_of c).files f).pool
      (bytes_read s disk.slots (cached_of c) f at n))
  pub readable : IfOk r (AllReadable t)
  pub pool : IfOk r (AreOf (file_in (cached_of c).files f).pool)
  pub short : IfOk r (λ a. byte_len a ≤ n)
  pub reads : IfOk r (ReadsFile f at n disk (holding s c) (holding t d))
  -- the cache and the store after the read
  pub backed : IsBacked disk (holding s c) → IsBacked after (holding t d)
  pub goes : IfOk r (λ a. Goes disk [] (bufs_of a) (holding s c) (holding t d))
  pub gone : OnErr r (Goes disk [] [] (holding s c) (holding t d))
  pub pages : FillsLowest (file_in (cached_of c).files f).pool s t
  pub sound : IsSound t (cached_of d)
  -- refusals
  pub refused : IfErr r (RefusesRead f at n disk (holding s c) (holding t d))
  pub room : ReportsRoom (RoomToRead f at n disk (holding s c)) (NoRoomToRead f at n disk (holding s c)) r
  pub fault : ReportsFault disk after r
  pub late : IfErr r (WantOfRoomOrFault (file_in (cached_of c).files f).pool f)

-- n is where a read of a file would end now: of a store that backs the cache, the length of the file
pub record ReportsLength (disk : Disk) (c : Cached) (f n : ℕ) : Type 0 where
  pub end : IsEnd disk c f n
  pub length : (s : Stored) → IsBacked disk (record { store = s; cache = c })
      → n ≡ length (bytes_in_slot s disk.slots c.files f)
