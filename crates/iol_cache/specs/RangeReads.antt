-- Reading a range of a file.
use Rattle.std.specs.Prelude.{◌≡◌, ℕ, ◌≤◌, ◌^◌, if◌then◌else◌, List, [], ◌∷◌, ◌++◌, All, length, Option, Some}
use Rattle.std.specs.List.{AllByRecursion}
use Rattle.std.specs.Prelude.{None, IsSome, Result, IfOk, flat_map, IsTrue}
use Rattle.iol_core.specs.NumberedLists.{is_numbered}
use Rattle.iol_core.specs.declared.limits.TheConstants.{MAX_FILE_BYTES}
use Rattle.iol_core.specs.declared.refusals.Refusal.{Refusal}
use Rattle.iol_back.specs.Disk.{Disk}
use Rattle.iol_hold.specs.Moves.{Covers, Shares}
use Rattle.iol_hold.specs.Places.{Place, places, byte_len}
use Rattle.iol_hold.specs.StoreState.{Stored}
use Rattle.iol_hold.specs.Texts.{AllReadable, bufs_of}
use Rattle.iol_hold.specs.declared.slices.Slice.{Slice}
use Rattle.iol_extent.specs.Extents.{Extent, ExtentMap, begins_at, extent_over}
use Rattle.iol_extent.specs.Spans.{AreInOrder, IsGapSpan}
use Rattle.iol_extent.specs.declared.spans.Span.{Span}
use Rattle.iol_evict.specs.Order.{Ranking, hit_at, entered}
use Rattle.iol_cache.specs.declared.files.CachedFile.{CachedFile}
use Rattle.iol_cache.specs.declared.files.FilePart.{FilePart}
use Rattle.iol_cache.specs.Evictions.{Holding}
use Rattle.iol_cache.specs.Gaps.{FillsGaps, HasGaps, ReadsAllGaps}
use Rattle.iol_cache.specs.Marks.{AreWithin}
use Rattle.iol_cache.specs.SharedBytes.{CountsBelow}
use Rattle.iol_cache.specs.Sound.{IsSound}
use Rattle.iol_cache.specs.Weave.{HasSlicesWoven, LieBeside, len_beside, woven}
use Rattle.iol_cache.specs.CacheState.{Cached, file_in, extents_in, order_in, parts_in, all_parts, held, clean_held}
use Rattle.iol_cache.specs.CacheState.{clean_at, entries_at}

-- nothing changed except the reserved room
pub record SameButRoom (old new : Cached) : Type 0 where
  pub pools : (f : ℕ) → (file_in new.files f).pool ≡ (file_in old.files f).pool
  pub extents : (f : ℕ) → extents_in new.files f ≡ extents_in old.files f
  pub files : length new.files ≡ length old.files
  pub held : held new.files ≡ held old.files
  pub clean : clean_held new.files ≡ clean_held old.files
  pub entries : (p : ℕ) → (order_in new.orders p).entries ≡ (order_in old.orders p).entries
  pub low : (p : ℕ) → (order_in new.orders p).low ≡ (order_in old.orders p).low
  pub kept : (p : ℕ) → (order_in new.orders p).kept ≡ (order_in old.orders p).kept
  pub orders : length new.orders ≡ length old.orders
  pub marks : new.marks ≡ old.marks

-- Hits.

-- a hit on an extent counts if the extent is clean
abbrev pub hit_counted : Ranking → (f : ℕ) → Option Extent → Ranking
hit_counted r f None = r
hit_counted r f (Some e) = if e.dirty then r else hit_at r f e.at

-- an order after these spans of a file were hit, one after another
abbrev pub hits_counted : Ranking → (f : ℕ) → List Extent → List Span → Ranking
hits_counted r f es [] = r
hits_counted r f es (s ∷ ss) = hits_counted (hit_counted r f (extent_over es s.from)) f es ss

-- of the entries of the file, an order has exactly those of its clean extents
pub record RanksFile (r : Ranking) (f : ℕ) (es : List Extent) : Type 0 where
  pub each : (at : ℕ) → entries_at f at r.entries ≡ clean_at at es

-- Extents that are inserted where spans begin.

abbrev pub parts_from : List Extent → Span → List Slice
parts_from es s = parts_in (begins_at es s.from)

-- the slices of the extents that begin where these spans do
abbrev pub parts_of_spans : List Extent → List Span → List Slice
parts_of_spans es ss = flat_map (parts_from es) ss

-- an order after the extents that begin where these spans begin entered, one after another
abbrev pub all_entered : Ranking → (f : ℕ) → List Extent → List Span → Ranking
all_entered r f es [] = r
all_entered r f es (s ∷ ss) = all_entered (entered r f s.from (byte_len (parts_from es s)) 1) f es ss

-- an extent begins where each of these spans does
abbrev pub AllBeginAt : List Extent → List Span → Type 0
AllBeginAt es spans = AllByRecursion (λ s. IsSome (begins_at es s.from)) spans

-- the pages of the extents are below n
pub record AllWithin (n : ℕ) (es : List Extent) : Type 0 where
  pub each : (at : ℕ) → AreWithin n (parts_in (begins_at es at))

-- the order has no entry where these spans begin
abbrev pub AreAbsent : Ranking → (f : ℕ) → List Span → Type 0
AreAbsent r f spans = AllByRecursion (λ s. entries_at f s.from r.entries ≡ 0) spans

-- Gaps of a range were read, and the range was assembled from the shared bytes outside the gaps, and from the gaps.
pub record FillsRange (s t : Stored) (old new : ExtentMap) (pool : ℕ) (beside : List Place) (gaps : List Span)
    (from to : ℕ) (disk : Disk) (file : ℕ) (xs : List Slice) : Type 0 where
  pub mid : Stored
  pub fills : FillsGaps s mid old new pool gaps disk file
  pub shares : Shares mid t [] (bufs_of xs)
  pub lies : places xs ≡ woven beside new.extents from to gaps

-- The gaps of a range of a file in memory may be filled, and the range assembled with these slices, which have as many
-- bytes as the range outside the gaps.
pub record MayFillRange (s : Stored) (x : CachedFile) (from to : ℕ) (gs : List Span) (xs : List Slice) : Type 0 where
  pub gaps : HasGaps s x.extents x.pool from to gs
  pub end : to ≤ MAX_FILE_BYTES
  pub held : Covers s (bufs_of (all_parts x.extents.extents))
  pub readable : AllReadable s (all_parts x.extents.extents)
  pub beside : LieBeside s from to gs xs
  pub few : CountsBelow s (2 ^ 60)

-- The gaps of a part of a file in memory are filled, all of them or none, and the part is assembled with these slices,
-- which have the bytes outside the gaps.
pub record FillsAll (part : FilePart) (gs : List Span) (xs : List Slice) (disk after : Disk) (s t : Stored)
    (x y : CachedFile)
    (r : Result (List Slice) Refusal) : Type 0 where
  pub fills : IfOk r (FillsRange s t x.extents y.extents x.pool (places xs) gs part.from part.to disk part.file)
  pub parts : IfOk r (HasSlicesWoven xs y.extents.extents part.from part.to gs)
  pub pool : y.pool ≡ x.pool
  pub reads : ReadsAllGaps x.pool part.file gs (y ≡ x) disk after s t r

-- These are gaps of a range of a file, and there is room in the file and in its pool's order for as many extents.
pub record CanFill (c : Cached) (f from to : ℕ) (gs : List Span) : Type 0 where
  pub file : IsTrue (is_numbered c.files f)
  pub ordered : from ≤ to
  pub end : to ≤ MAX_FILE_BYTES
  pub in_order : AreInOrder from to gs
  pub gaps : All (IsGapSpan (extents_in c.files f)) gs
  pub room : length gs ≤ (file_in c.files f).extents.room
  pub entries : length gs ≤ (order_in c.orders (file_in c.files f).pool).room

-- A range of a file may be filled: these are its gaps, and these slices, which are held in addition to all that the
-- cache holds and can be read, have as many bytes as the range outside the gaps.
pub record MayFill (f from to : ℕ) (gs : List Span) (xs : List Slice) (h : Holding) : Type 0 where
  pub sound : IsSound h.store h.cache
  pub range : CanFill h.cache f from to gs
  pub long : byte_len xs ≡ len_beside from to gs
  pub held : Covers h.store (held h.cache.files ++ bufs_of xs)
  pub readable : AllReadable h.store xs
  pub few : CountsBelow h.store (2 ^ 60)
