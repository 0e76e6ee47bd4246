-- Bytes of a file, shared from the extents over them.
use Rattle.std.specs.Prelude.{◌≡◌, ℕ, ◌+◌, ◌-◌, ◌<◌, ◌≤◌, ◌^◌, ◌++◌, List, [], ◌∷◌, map, Option, Some, None, IsSome}
use Rattle.std.specs.Prelude.{Result, IfOk, OnErr}
use Rattle.std.specs.List.{range_with_len}
use Rattle.iol_core.specs.declared.numbers.BufId.{BufId}
use Rattle.iol_agg.specs.Pours.{meeting}
use Rattle.iol_extent.specs.Extents.{Cell, Extent, IsApart, cover, no_place}
use Rattle.iol_extent.specs.declared.spans.Span.{Span}
use Rattle.iol_hold.specs.Moves.{Covers, Moves, SameLists, Shares, tally}
use Rattle.iol_hold.specs.Places.{Place, byte_len, places}
use Rattle.iol_hold.specs.Releases.{FreesOnly}
use Rattle.iol_hold.specs.StoreState.{AllReclaimed, Stored, count_of}
use Rattle.iol_hold.specs.Texts.{AllReadable, bufs_of}
use Rattle.iol_hold.specs.declared.slices.Slice.{Slice}
use Rattle.iol_cache.specs.CacheState.{all_parts}

-- each byte of the range is under an extent
pub record IsCovered (es : List Extent) (from to : ℕ) : Type 0 where
  pub each : (i : ℕ) → from ≤ i → i < to → IsSome (cover es i)

abbrev pub place_in : Option Cell → Place
place_in None = no_place
place_in (Some c) = c.place

-- the place of byte i of a file
abbrev pub place_over : List Extent → (i : ℕ) → Place
place_over es i = place_in (cover es i)

-- the places of the bytes of a range
abbrev pub places_over : List Extent → (from to : ℕ) → List Place
places_over es from to = map (place_over es) (range_with_len from (to - from))

-- the slices of the extents that have a byte of from..to, in order
abbrev pub slices_over : List Extent → (from to : ℕ) → List Slice
slices_over [] from to = []
slices_over (e ∷ es) from to = meeting (from - e.at) (to - e.at) e.parts ++ slices_over es from to

-- the range of the span is under extents
abbrev pub IsCoveredSpan : List Extent → Span → Type 0
IsCoveredSpan es s = IsCovered es s.from s.to

-- these extents do not overlap, their slices are held, and their bytes can be read
pub record AreHeld (s : Stored) (es : List Extent) : Type 0 where
  pub apart : IsApart 0 es
  pub held : Covers s (bufs_of (all_parts es))
  pub readable : AllReadable s (all_parts es)

-- each buffer is held fewer than n times
pub record CountsBelow (s : Stored) (n : ℕ) : Type 0 where
  pub each : (b : BufId) → count_of s b < n

-- Slices are shared, in addition to those held so far, and returned with them. After an error all of them are released.
pub record SharesOrReleases {A E : Type 0} (so_far : List Slice) (given : A → List Slice) (old new : Stored)
    (r : Result A E) : Type 0 where
  pub shares : IfOk r (λ a. Shares old new (bufs_of so_far) (bufs_of (given a)))
  pub gone : OnErr r (Moves old new (bufs_of so_far) [])
  pub frees : FreesOnly old new
  pub lists : SameLists old new
  pub reclaims : AllReclaimed old → AllReclaimed new

-- The bytes of a range are under extents, and may be added to those shared so far: all of them are held, and can be
-- read.
pub record MayShare (s : Stored) (es : List Extent) (so_far : List Slice) (from to : ℕ) : Type 0 where
  pub ordered : from ≤ to
  pub apart : IsApart 0 es
  pub covered : IsCovered es from to
  pub held : Covers s (bufs_of so_far ++ bufs_of (all_parts es))
  pub readable : AllReadable s (all_parts es)
  pub own_readable : AllReadable s so_far
  pub few : (b : BufId) → count_of s b < 2 ^ 62 + tally b (bufs_of so_far)
  pub small : byte_len so_far + (to - from) < 2 ^ 32

-- The bytes of a range were added to those shared so far: one slice for each slice of an extent that has a byte of
-- the range, the first and the last one cut at its ends. If refused, all of them are released.
pub record SharesOver {E : Type 0} (es : List Extent) (so_far : List Slice) (from to : ℕ) (old new : Stored)
    (r : Result (List Slice) E) : Type 0 where
  pub places : IfOk r (λ a. places a ≡ places so_far ++ places_over es from to)
  pub parts : IfOk r (λ a. bufs_of a ≡ bufs_of so_far ++ bufs_of (slices_over es from to))
  pub shared : SharesOrReleases so_far (λ a. a) old new r
