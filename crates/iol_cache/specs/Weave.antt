-- A range of a file: the bytes outside its gaps, which were shared first, and those of its gaps.
use Rattle.std.specs.Prelude.{◌≡◌, ℕ, ◌+◌, ◌-◌, ◌<◌, ◌≤◌, ◌^◌, All, List, [], ◌∷◌, ◌++◌, take, drop, slice_range}
use Rattle.iol_agg.specs.Pours.{meeting}
use Rattle.iol_extent.specs.Extents.{Extent}
use Rattle.iol_extent.specs.Spans.{AreInOrder}
use Rattle.iol_extent.specs.declared.spans.Span.{Span}
use Rattle.iol_hold.specs.Moves.{Covers}
use Rattle.iol_hold.specs.Places.{Place, byte_len, places}
use Rattle.iol_hold.specs.StoreState.{Stored}
use Rattle.iol_hold.specs.Texts.{AllReadable, bufs_of}
use Rattle.iol_hold.specs.declared.slices.Slice.{Slice}
use Rattle.iol_cache.specs.SharedBytes.{AreHeld, CountsBelow, IsCovered, IsCoveredSpan, places_over, slices_over}

-- the number of bytes of at..to outside these gaps
abbrev pub len_beside : (at to : ℕ) → List Span → ℕ
len_beside at to [] = to - at
len_beside at to (g ∷ gs) = (g.from - at) + len_beside g.to to gs

-- the places of the bytes of at..to outside these gaps
abbrev pub places_beside : List Extent → (at to : ℕ) → List Span → List Place
places_beside es at to [] = places_over es at to
places_beside es at to (g ∷ gs) = places_over es at g.from ++ places_beside es g.to to gs

-- the places of at..to, with those of the gaps among these
abbrev pub woven : List Place → List Extent → (at to : ℕ) → List Span → List Place
woven ps es at to [] = take (to - at) ps
woven ps es at to (g ∷ gs) = take (g.from - at) ps ++ places_over es g.from g.to
    ++ woven (drop (g.from - at) ps) es g.to to gs

-- the places where a read finds the bytes of at..to: the gaps in the new extents, all others in the old ones
abbrev pub places_read : (old new : List Extent) → (at to : ℕ) → List Span → List Place
places_read old new at to [] = places_over old at to
places_read old new at to (g ∷ gs) = places_over old at g.from ++ places_over new g.from g.to
    ++ places_read old new g.to to gs

-- the slices of the extents that have a byte of at..to outside these gaps, once for each part of at..to between two
-- gaps
abbrev pub slices_beside : List Extent → (at to : ℕ) → List Span → List Slice
slices_beside es at to [] = slices_over es at to
slices_beside es at to (g ∷ gs) = slices_over es at g.from ++ slices_beside es g.to to gs

-- the slices of the extents that have a byte of at..to: of the new extents for the gaps, and of the old ones outside
-- the gaps
abbrev pub slices_read : (old new : List Extent) → (at to : ℕ) → List Span → List Slice
slices_read old new at to [] = slices_over old at to
slices_read old new at to (g ∷ gs) =
    slices_over old at g.from ++ (slices_over new g.from g.to ++ slices_read old new g.to to gs)

-- The slices of at..to. The bytes outside the gaps are those of xs from byte `used` on. For each part between two gaps
-- there are the slices of xs that have a byte of it, and for each gap the slices of the extents that have a byte of it.
abbrev pub slices_woven : List Slice → List Extent → (used at to : ℕ) → List Span → List Slice
slices_woven xs es used at to [] = meeting used (used + (to - at)) xs
slices_woven xs es used at to (g ∷ gs) =
    meeting used (used + (g.from - at)) xs
    ++ (slices_over es g.from g.to ++ slices_woven xs es (used + (g.from - at)) g.to to gs)

-- the bytes of at..to outside these gaps are under extents
abbrev pub IsCoveredBeside : List Extent → (at to : ℕ) → List Span → Type 0
IsCoveredBeside es at to [] = IsCovered es at to
IsCoveredBeside es at to (g ∷ gs) = IsCovered es at g.from × IsCoveredBeside es g.to to gs

-- These slices, which are held and can be read, have as many bytes as a range outside its gaps.
pub record LieBeside (s : Stored) (from to : ℕ) (gaps : List Span) (xs : List Slice) : Type 0 where
  pub long : byte_len xs ≡ len_beside from to gaps
  pub held : Covers s (bufs_of xs)
  pub readable : AllReadable s xs

-- the bytes of a range outside these gaps may be shared
pub record MayShareBeside (s : Stored) (es : List Extent) (from to : ℕ) (gaps : List Span) : Type 0 where
  pub there : AreHeld s es
  pub in_order : AreInOrder from to gaps
  pub covered : IsCoveredBeside es from to gaps
  pub few : CountsBelow s (2 ^ 62)

-- a range may be assembled from these slices, and from the extents over its gaps
pub record MayWeave (s : Stored) (es : List Extent) (from to : ℕ) (gaps : List Span) (xs : List Slice) : Type 0 where
  pub there : AreHeld s es
  pub in_order : AreInOrder from to gaps
  pub covered : All (IsCoveredSpan es) gaps
  pub beside : LieBeside s from to gaps xs
  pub few : CountsBelow s (2 ^ 61)

-- a part of ys may be added to xs
pub record MayAddPart (s : Stored) (xs ys : List Slice) (from to : ℕ) : Type 0 where
  pub ordered : from ≤ to
  pub within : to ≤ byte_len ys
  pub held : Covers s (bufs_of ys)
  pub readable : AllReadable s ys
  pub own : Covers s (bufs_of xs)
  pub own_readable : AllReadable s xs
  pub few : CountsBelow s (2 ^ 62)
  pub small : byte_len xs + (to - from) < 2 ^ 32

-- zs has the bytes of xs in their places, and then those of ys from a place on up to another
abbrev pub HasPart : (xs ys : List Slice) → (from to : ℕ) → (zs : List Slice) → Type 0
HasPart xs ys from to zs = places zs ≡ places xs ++ slice_range (places ys) from to

-- zs has the bytes of a range: those of its gaps in the places of the extents, and those outside the gaps in the places
-- of xs
abbrev pub IsWoven : (xs : List Slice) → List Extent → (from to : ℕ) → (gaps : List Span) → (zs : List Slice) → Type 0
IsWoven xs es from to gaps zs = places zs ≡ woven (places xs) es from to gaps

-- the slices that zs adds to xs are those of ys with a byte from a place up to another
abbrev pub AddsPart : (xs ys : List Slice) → (from to : ℕ) → (zs : List Slice) → Type 0
AddsPart xs ys from to zs = bufs_of zs ≡ bufs_of xs ++ bufs_of (meeting from to ys)

-- zs has a slice for each slice of the extents with a byte of a range outside its gaps
abbrev pub HasSlicesBeside : List Extent → (from to : ℕ) → (gaps : List Span) → (zs : List Slice) → Type 0
HasSlicesBeside es from to gaps zs = bufs_of zs ≡ bufs_of (slices_beside es from to gaps)

-- zs has the slices of a range: those of extents for its gaps, and those of xs outside them
abbrev pub HasSlicesWoven : (xs : List Slice) → List Extent → (from to : ℕ) → (gaps : List Span) → (zs : List Slice)
    → Type 0
HasSlicesWoven xs es from to gaps zs = bufs_of zs ≡ bufs_of (slices_woven xs es 0 from to gaps)
