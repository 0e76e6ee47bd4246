-- The bytes of a range outside its gaps are under extents.
use Rattle.std.proofs.Common.{inl, inr, ◌⊎◌, ℕ, ◌<◌, ◌≤◌, List, [], ◌∷◌, IsSome, arith}
use Rattle.iol_extent.specs.Extents.{Extent, cover}
use Rattle.iol_extent.specs.Spans.{AreInOrder, LiesIn, Tile}
use Rattle.iol_extent.specs.declared.spans.Span.{Span}
use Rattle.iol_extent.proofs.Alone.{ends_high, hit_over, lies_above}
use Rattle.iol_cache.specs.Weave.{IsCoveredBeside}

beside : (es : List Extent) (at to : ℕ) (gs : List Span) → AreInOrder at to gs
    → ((i : ℕ) → at ≤ i → i < to → IsSome (cover es i) ⊎ LiesIn i gs) → IsCoveredBeside es at to gs
beside es at to [] order h = record { each = λ i low high. elim (h i low high) [ inl c ↦ c | inr z ↦ absurd z ] }
beside es at to (g ∷ gs) order h =
    let end = ends_high g.to to gs order.2 in (
      record {
        each = λ i low high. elim (h i low (omega (arith, high, order.1, end))) [
          | inl c ↦ c
          | inr l ↦ elim l [
            | inl here ↦ absurd (omega (arith, here.0, high))
            | inr later ↦ absurd (omega (arith, lies_above g.to to i gs order.2 later, order.1, high))
          ]
        ];
      },
      beside es g.to to gs order.2 (λ i low high. elim (h i (omega (arith, low, order.0, order.1)) high) [
        | inl c ↦ inl c
        | inr l ↦ elim l [
          | inl here ↦ absurd (omega (arith, here.1, low))
          | inr later ↦ inr later
        ]
      ]),
    )

pub tile_beside : (es : List Extent) (from to : ℕ) (hits gaps : List Span) → Tile es from to hits gaps
    → IsCoveredBeside es from to gaps
tile_beside es from to hits gaps tile = beside es from to gaps tile.gaps (λ i low high. elim (tile.each i low high) [
  | inl hit ↦ inl (hit_over es to i hits tile.covered hit)
  | inr gap ↦ inr gap
])
