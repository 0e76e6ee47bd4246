-- Gaps of a file that become clean extents.
use Rattle.std.specs.Prelude.{◌≡◌, ℕ, ◌+◌, ◌-◌, ◌≤◌, List, [], ◌∷◌, ◌++◌, length, take, drop, IsSome}
use Rattle.std.specs.Prelude.{slice_range, All, Result, IfErr, OnErr, OnOk, IsFalse, ⊤}
use Rattle.std.specs.List.{AllZip}
use Rattle.iol_core.specs.Prelude.{WantOfRoomOrFault}
use Rattle.iol_core.specs.Text as text
use Rattle.iol_core.specs.declared.refusals.Refusal.{Refusal}
use Rattle.iol_arena.specs.Adds.{IsNew}
use Rattle.iol_arena.specs.State.{pages_for}
use Rattle.iol_arena.specs.Buffers.{Grows}
use Rattle.iol_back.specs.Disk.{Disk, IfHonest, content}
use Rattle.iol_cache.specs.CacheState.{all_parts, parts_in}
use Rattle.iol_cache.specs.Loads.{Asks, PlacesBuffers, PlacesOrReleases, PlacesPages}
use Rattle.iol_extent.specs.Extents.{Adds, Extent, ExtentMap, IsApart, begins_at, end_of, put_in, without_at}
use Rattle.iol_extent.specs.Spans.{AreInOrder, IsGapSpan}
use Rattle.iol_extent.specs.declared.spans.Span.{Span}
use Rattle.iol_hold.specs.Moves.{Moves, SameLists}
use Rattle.iol_hold.specs.Places.{byte_len}
use Rattle.iol_hold.specs.Releases.{FreesOnly}
use Rattle.iol_hold.specs.StoreState.{AllReclaimed, Stored}
use Rattle.iol_hold.specs.Texts.{text_of, bufs_of, AllReadable}
use Rattle.iol_hold.specs.declared.slices.Slice.{Slice}
use Rattle.iol_pool.specs.Pools.{pool_in}

-- the number of pages that gaps need: each gap has pages of its own
abbrev pub gap_pages : List Span → ℕ
gap_pages [] = 0
gap_pages (g ∷ gs) = pages_for (g.to - g.from) + gap_pages gs

-- These are gaps between extents, in order from low to high, and there is room for as many extents, with bytes of an
-- open pool.
pub record HasGaps (s : Stored) (m : ExtentMap) (pool low high : ℕ) (gaps : List Span) : Type 0 where
  pub apart : IsApart 0 m.extents
  pub in_order : AreInOrder low high gaps
  pub each : All (IsGapSpan m.extents) gaps
  pub room : length gaps ≤ m.room
  pub opened : IsFalse (pool_in s.pools pool).closed

-- with these extents added, one after another
unfoldable pub all_put : List Extent → List Extent → List Extent
all_put es [] = es
all_put es (e ∷ made) = all_put (put_in es e) made

-- slices of one pool
pub record AreOf (pool : ℕ) (xs : List Slice) : Type 0 where
  pub each : All (λ x. x.hold.pool ≡ pool) xs

-- buffers created since
pub record AreNew (old new : Stored) (xs : List Slice) : Type 0 where
  pub each : All (IsNew old.arena new.arena) (bufs_of xs)

-- a clean extent over the gap, of bytes of the pool in buffers created since
pub record IsMade (old new : Stored) (pool : ℕ) (g : Span) (e : Extent) : Type 0 where
  pub begins : e.at ≡ g.from
  pub ends : end_of e ≡ g.to
  pub clean : IsFalse e.dirty
  pub readable : AllReadable new e.parts
  pub pooled : AreOf pool e.parts
  pub fresh : AreNew old new e.parts

-- one for each gap, in order
pub record AreMade (old new : Stored) (pool : ℕ) (gaps : List Span) (made : List Extent) : Type 0 where
  pub each : AllZip (IsMade old new pool) gaps made

-- the bytes of the extent are those of the store
pub record Mirrors (s : Stored) (pool : ℕ) (stored : List ℕ) (e : Extent) : Type 0 where
  pub within : end_of e ≤ length stored
  pub is : text_of s e.parts ≡ text.labelled pool (slice_range stored e.at (end_of e))

pub record AllMirror (s : Stored) (pool : ℕ) (stored : List ℕ) (es : List Extent) : Type 0 where
  pub each : All (Mirrors s pool stored) es

-- the bytes of a gap of a file were read into new buffers of the pool, which these slices hold
pub record LoadsSlices (pool file : ℕ) (gap : Span) (disk : Disk) (s t : Stored) (xs : List Slice) : Type 0 where
  pub placed : PlacesBuffers s t pool (gap.to - gap.from) (bufs_of xs)
  pub long : byte_len xs ≡ gap.to - gap.from
  pub readable : AllReadable t xs
  pub pooled : AreOf pool xs
  pub value : IfHonest disk
      (text_of t xs ≡ text.labelled pool (take (gap.to - gap.from) (drop gap.from (content disk.slots file))))
  pub inside : IfHonest disk (gap.from + (gap.to - gap.from) ≤ length (content disk.slots file))

-- a gap was read into new buffers of the pool, and is a clean extent
pub record FillsGap (s t : Stored) (old new : ExtentMap) (pool : ℕ) (gap : Span) (disk : Disk) (file : ℕ) : Type 0 where
  pub made : Extent
  pub is : IsMade s t pool gap made
  pub extents : new.extents ≡ put_in old.extents made
  pub adds : Adds old.extents made new.extents
  pub apart : IsApart 0 new.extents
  pub room : new.room + 1 ≡ old.room
  pub moves : Moves s t [] (bufs_of made.parts)
  pub grows : Grows s.arena t.arena
  pub places : PlacesPages s t pool (pages_for (gap.to - gap.from))
  pub mirrors : IfHonest disk (Mirrors t pool (content disk.slots file) made)

-- each gap was read into new buffers of the pool, and is a clean extent
pub record FillsGaps (s t : Stored) (old new : ExtentMap) (pool : ℕ) (gaps : List Span) (disk : Disk) (file : ℕ) :
    Type 0 where
  pub made : List Extent
  pub each : AreMade s t pool gaps made
  pub extents : new.extents ≡ all_put old.extents made
  pub apart : IsApart 0 new.extents
  pub room : new.room + length gaps ≡ old.room
  pub moves : Moves s t [] (bufs_of (all_parts made))
  pub places : PlacesPages s t pool (gap_pages gaps)
  pub mirrors : IfHonest disk (AllMirror t pool (content disk.slots file) made)

-- A call that reads these gaps of a file into pages of a pool, all of them or none, with one read of the store for
-- each. After an error, everything else is unchanged, and the placed bytes are released.
pub record ReadsAllGaps {A : Type 0} (pool file : ℕ) (gaps : List Span) (stays : Type 0) (disk after : Disk)
    (old new : Stored)
    (r : Result A Refusal) : Type 0 where
  pub same : OnErr r stays
  pub leaves : PlacesOrReleases pool (gap_pages gaps) old new r
  pub asks : Asks (length gaps) disk after r
  pub late : IfErr r (WantOfRoomOrFault pool file)

-- without the extents that begin where these spans begin: the last is removed first
abbrev pub without_spans : List Extent → List Span → List Extent
without_spans es [] = es
without_spans es (g ∷ gs) = without_at (without_spans es gs) g.from

-- their slices
abbrev pub parts_back : List Extent → List Span → List Slice
parts_back es [] = []
parts_back es (g ∷ gs) = parts_back es gs ++ parts_in (begins_at (without_spans es gs) g.from)

-- an extent begins at each of them
abbrev pub AllBegin : List Extent → List Span → Type 0
AllBegin es [] = ⊤
AllBegin es (g ∷ gs) = AllBegin es gs × IsSome (begins_at (without_spans es gs) g.from)

-- these extents are removed, the last first, and released
pub record TakesBack (s t : Stored) (old new : ExtentMap) (spans : List Span) : Type 0 where
  pub extents : new.extents ≡ without_spans old.extents spans
  pub room : new.room ≡ old.room + length spans
  pub moves : Moves s t (bufs_of (parts_back old.extents spans)) []
  pub lists : SameLists s t
  pub frees : FreesOnly s t
  pub reclaims : AllReadable s (parts_back old.extents spans) → AllReclaimed s → AllReclaimed t

-- Each gap of a file was read into new buffers of the pool and is a clean extent; or, after an error, the extents are
-- unchanged.
pub record FillsGapsOrKeeps {A : Type 0} (pool file : ℕ) (gaps : List Span) (disk after : Disk) (s t : Stored)
    (old new : ExtentMap) (r : Result A Refusal) : Type 0 where
  pub fills : OnOk r (FillsGaps s t old new pool gaps disk file)
  pub reads : ReadsAllGaps pool file gaps (new ≡ old) disk after s t r
