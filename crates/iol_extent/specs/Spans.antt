-- Hits and gaps of a range.
use Rattle.std.specs.Prelude.{◌≡◌, ℕ, ◌<◌, ◌≤◌, ◌⊎◌, min, Bool, IsTrue, List, [], ◌∷◌, length, slice_index_or}
use Rattle.std.specs.Prelude.{All, IsSome, IsFalse}
use Rattle.iol_extent.specs.declared.spans.Span.{Span}
use Rattle.iol_extent.specs.Extents.{Extent, cover, end_of, IsGap}

-- spans one after another, none of them empty, between two places
abbrev pub AreInOrder : (from to : ℕ) → List Span → Type 0
AreInOrder from to [] = from ≤ to
AreInOrder from to (s ∷ ss) = (from ≤ s.from) × (s.from < s.to) × AreInOrder s.to to ss

-- a byte is in one of these spans
abbrev pub LiesIn : (i : ℕ) → List Span → Type 0
LiesIn i [] = ⊥
LiesIn i (s ∷ ss) = ((s.from ≤ i) × (i < s.to)) ⊎ LiesIn i ss

-- a span under one extent, which ends at the end of the extent or of the range
pub record IsHit (es : List Extent) (to : ℕ) (s : Span) : Type 0 where
  pub index : ℕ
  pub extent : Extent
  pub within : index < length es
  pub is : slice_index_or es index extent ≡ extent
  pub begins : extent.at ≤ s.from
  pub ends : s.to ≡ min to (end_of extent)

abbrev pub IsGapSpan : List Extent → Span → Type 0
IsGapSpan es s = IsGap es s.from s.to

-- a gap ends at the next extent, or at the end of the range
pub record IsWhole (es : List Extent) (to : ℕ) (s : Span) : Type 0 where
  pub ends : s.to < to → IsSome (cover es s.to)

-- The hit or the gap of a range that begins at a place, and whether it is a hit.
pub record BeginsAt (es : List Extent) (at to : ℕ) (s : Span) (is_hit : Bool) : Type 0 where
  pub from : s.from ≡ at
  pub further : at < s.to
  pub within : s.to ≤ to
  pub hit : IsTrue is_hit → IsHit es to s
  pub gap : IsFalse is_hit → IsGap es at s.to
  pub whole : IsFalse is_hit → IsWhole es to s

-- Hits and gaps of a range, each in order. Each byte of the range is in one of them.
pub record Tile (es : List Extent) (from to : ℕ) (found missed : List Span) : Type 0 where
  pub hits : AreInOrder from to found
  pub gaps : AreInOrder from to missed
  pub covered : All (IsHit es to) found
  pub empty : All (IsGapSpan es) missed
  pub whole : All (IsWhole es to) missed
  pub each : (i : ℕ) → from ≤ i → i < to → LiesIn i found ⊎ LiesIn i missed

-- Hits and gaps of a range were found. An empty or reversed range has none.
pub record Finds (es : List Extent) (from to : ℕ) (found missed : List Span) : Type 0 where
  pub tile : from ≤ to → Tile es from to found missed
  pub none : to ≤ from → (found ≡ []) × (missed ≡ [])
