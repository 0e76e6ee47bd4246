-- Extents that enter the order of their pool, and are marked.
use Rattle.std.specs.Prelude.{◌≡◌, ℕ, ◌-◌, ◌<◌, ◌≤◌, ◌^◌, List, length, IsSome}
use Rattle.iol_extent.specs.Extents.{Extent, IsApart, begins_at}
use Rattle.iol_extent.specs.Spans.{AreInOrder}
use Rattle.iol_extent.specs.declared.spans.Span.{Span}
use Rattle.iol_evict.specs.Order.{Ranking, entered}
use Rattle.iol_hold.specs.Places.{byte_len}
use Rattle.iol_cache.specs.CacheState.{entries_at, parts_in}
use Rattle.iol_cache.specs.Marks.{AreWithin, HasMarksLeft, Marks}
use Rattle.iol_cache.specs.RangeReads.{AllBeginAt, AllWithin, AreAbsent, all_entered, parts_of_spans}

-- An extent of file f begins at a place, and may enter the order: the order has no entry there, and room, and its pages
-- can be marked.
pub record MayEnter (f at : ℕ) (es : List Extent) (r : Ranking) (marks : List ℕ) : Type 0 where
  pub apart : IsApart 0 es
  pub begins : IsSome (begins_at es at)
  pub absent : entries_at f at r.entries ≡ 0
  pub room : 0 < r.room
  pub within : AreWithin (length marks) (parts_in (begins_at es at))
  pub few : HasMarksLeft marks (parts_in (begins_at es at))

-- the extent of file f that begins at a place entered the order with the height of a new entry, and is marked
pub record Enters (f at : ℕ) (es : List Extent) (r t : Ranking) (old new : List ℕ) : Type 0 where
  pub order : t ≡ entered r f at (byte_len (parts_in (begins_at es at))) 1
  pub marks : Marks old new (parts_in (begins_at es at))

-- Extents of file f begin where these spans do, one after another, and may enter the order: the order has no entry of
-- them, and room for them, and their pages can be marked.
pub record MayEnterAll (f : ℕ) (es : List Extent) (ss : List Span) (r : Ranking) (marks : List ℕ) : Type 0 where
  pub apart : IsApart 0 es
  pub begin : AllBeginAt es ss
  pub in_order : AreInOrder 0 (2 ^ 32 - 1) ss
  pub absent : AreAbsent r f ss
  pub room : length ss ≤ r.room
  pub within : AllWithin (length marks) es
  pub few : HasMarksLeft marks (parts_of_spans es ss)

-- the extents of file f that begin where these spans begin entered the order, one after another, and are marked
pub record EntersAll (f : ℕ) (es : List Extent) (ss : List Span) (r t : Ranking) (old new : List ℕ) : Type 0 where
  pub order : t ≡ all_entered r f es ss
  pub marks : Marks old new (parts_of_spans es ss)
