-- Consequences of the contracts.
use Rattle.std.specs.Prelude.{◌≡◌, ℕ, List}
use Rattle.iol_extent.specs.Extents.{Extent}
use Rattle.iol_extent.specs.Spans.{Tile}
use Rattle.iol_extent.specs.declared.spans.Span.{Span}

-- every tiling of a range has the same gaps
abbrev pub HasOneTiling : Type 0
HasOneTiling = (es : List Extent) (from to : ℕ) (hits gaps more others : List Span) → Tile es from to hits gaps
    → Tile es from to more others → gaps ≡ others
