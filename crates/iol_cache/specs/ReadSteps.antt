-- The effects of each step of a read on a store and a cache over it.
use Rattle.std.specs.Prelude.{◌≡◌, ℕ, ◌+◌, ◌<◌, ◌≤◌, List, [], ◌++◌, length, Result, IfOk}
use Rattle.iol_core.specs.declared.numbers.BufId.{BufId}
use Rattle.iol_core.specs.declared.refusals.Refusal.{Refusal}
use Rattle.iol_arena.specs.State.{page_count}
use Rattle.iol_back.specs.Disk.{Disk, IfHonest}
use Rattle.iol_hold.specs.Moves.{Moves, Shares, SameLists}
use Rattle.iol_hold.specs.Places.{Place, places}
use Rattle.iol_hold.specs.Room.{pages_of}
use Rattle.iol_hold.specs.StoreState.{Stored, AllReclaimed}
use Rattle.iol_hold.specs.Texts.{bufs_of}
use Rattle.iol_hold.specs.declared.slices.Slice.{Slice}
use Rattle.iol_extent.specs.Extents.{ExtentMap}
use Rattle.iol_extent.specs.Spans.{Tile}
use Rattle.iol_extent.specs.declared.spans.Span.{Span}
use Rattle.iol_cache.specs.CacheState.{Cached, file_in, with_file, order_in, with_order, extents_in, held, clean_held}
use Rattle.iol_cache.specs.Contents.{Mirrors, SameFiles}
use Rattle.iol_cache.specs.Evictions.{Holding}
use Rattle.iol_cache.specs.Gaps.{ReadsAllGaps, gap_pages}
use Rattle.iol_cache.specs.PinnedPages.{pinned_beside}
use Rattle.iol_cache.specs.Marks.{Marks}
use Rattle.iol_cache.specs.RangeReads.{FillsRange, SameButRoom, hits_counted, all_entered, parts_of_spans}
use Rattle.iol_cache.specs.Sound.{IsSound}
use Rattle.iol_cache.specs.Weave.{HasSlicesWoven, places_beside}

-- In addition to the references of the extents, the references `taken` became the references `given`. With an honest
-- store every file keeps its bytes, and clean extents have the stored bytes.
pub record Goes (disk : Disk) (taken given : List BufId) (old new : Holding) : Type 0 where
  pub moves : Moves old.store new.store (held old.cache.files ++ taken) (held new.cache.files ++ given)
  pub lists : SameLists old.store new.store
  pub reclaims : AllReclaimed old.store → AllReclaimed new.store
  pub pages : page_count new.store.arena ≡ page_count old.store.arena
  pub count : length new.cache.files ≡ length old.cache.files
  pub pools : (f : ℕ) → (file_in new.cache.files f).pool ≡ (file_in old.cache.files f).pool
  pub mirrors : IfHonest disk (Mirrors old.store disk.slots old.cache.files
      → Mirrors new.store disk.slots new.cache.files)
  pub files : IfHonest disk
      (Mirrors old.store disk.slots old.cache.files
      → SameFiles old.store old.cache.files new.store new.cache.files disk.slots)

-- hits on extents of a file were counted in the order of its pool
pub record CountsHits (f : ℕ) (hits : List Span) (old new : Cached) : Type 0 where
  pub files : new.files ≡ old.files
  pub marks : new.marks ≡ old.marks
  pub orders : let p = (file_in old.files f).pool in
      new.orders ≡ with_order old.orders p (hits_counted (order_in old.orders p) f (extents_in old.files f) hits)

-- The hits of a range with one more reference each, and the gaps; which pages are pinned then, and the number of needed
-- pages.
pub record Pins (s : Stored) (c : Cached) (f from to : ℕ) : Type 0 where
  pub hits : List Span
  pub gaps : List Span
  pub tile : Tile (extents_in c.files f) from to hits gaps
  pub mid : Stored
  pub pins : List Slice
  pub lies : places pins ≡ places_beside (extents_in c.files f) from to gaps
  pub shares : Shares s mid [] (bufs_of pins)

-- the number of pages of the file's pool that are pinned while the range is read, and of those that its gaps need
abbrev pub wanted_pages : {s : Stored} {c : Cached} {f from to : ℕ} → Pins s c f from to → ℕ
wanted_pages {c = c} {f = f} x = pinned_beside x.mid (clean_held c.files) (file_in c.files f).pool + gap_pages x.gaps

-- they fit the pool, or they do not
pub record HasRoom (s : Stored) (c : Cached) (f from to : ℕ) : Type 0 where
  pub pinned : Pins s c f from to
  pub fits : wanted_pages pinned ≤ length (pages_of s (file_in c.files f).pool)

pub record LacksRoom (s : Stored) (c : Cached) (f from to : ℕ) : Type 0 where
  pub pinned : Pins s c f from to
  pub lacks : length (pages_of s (file_in c.files f).pool) < wanted_pages pinned

-- The gaps of a range of a file were read, and are clean extents, which are marked and in the order; the range was
-- assembled.
pub record FillsFile (f from to : ℕ) (beside : List Place) (gaps : List Span) (disk : Disk) (old new : Holding)
    (xs : List Slice) : Type 0 where
  pub extents : ExtentMap
  pub range : FillsRange old.store new.store (file_in old.cache.files f).extents extents
      (file_in old.cache.files f).pool
      beside gaps from to disk f xs
  pub files : new.cache.files ≡ with_file old.cache.files f
      (record { pool = (file_in old.cache.files f).pool; extents = extents })
  pub orders : let p = (file_in old.cache.files f).pool in
      new.cache.orders ≡ with_order old.cache.orders p
      (all_entered (order_in old.cache.orders p) f extents.extents gaps)
  pub marks : Marks old.cache.marks new.cache.marks (parts_of_spans extents.extents gaps)

-- The gaps of a range of a file are filled, all of them or none, and the range is assembled with these slices, which
-- have the bytes outside the gaps.
pub record FillsAllOf (f from to : ℕ) (gaps : List Span) (xs : List Slice) (disk after : Disk) (old new : Holding)
    (r : Result (List Slice) Refusal) : Type 0 where
  pub filled : IfOk r (FillsFile f from to (places xs) gaps disk old new)
  pub parts : IfOk r (HasSlicesWoven xs (extents_in new.cache.files f) from to gaps)
  pub sound : IsSound new.store new.cache
  pub reads : ReadsAllGaps (file_in old.cache.files f).pool f gaps (SameButRoom old.cache new.cache) disk after
      old.store new.store r
