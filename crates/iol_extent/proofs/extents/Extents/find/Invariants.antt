use Rattle.std.proofs.Common.{◌≡◌, [], ℕ, ◌-◌, ◌<◌, ◌≤◌, ◌⊎◌, All}
use Rattle.iol_extent.specs.Spans.{AreInOrder, LiesIn, IsHit, IsGapSpan, IsWhole}
use Rattle.iol_extent.proofs.extents.Extents.find.Given as goal

abbrev pub invariant-loop-at : goal.invariant-loop-at
invariant-loop-at l = record {
  begun : l.fn.from ≤ l.at;
  within : l.fn.from ≤ l.to → l.at ≤ l.to;
  none : l.to ≤ l.fn.from → (l.hits.items ≡ []) × (l.gaps.items ≡ []);
  hits : AreInOrder l.fn.from l.at l.hits.items;
  gaps : AreInOrder l.fn.from l.at l.gaps.items;
  covered : All (IsHit l.self.extents l.to) l.hits.items;
  empty : All (IsGapSpan l.self.extents) l.gaps.items;
  whole : All (IsWhole l.self.extents l.to) l.gaps.items;
  each : (i : ℕ) → l.fn.from ≤ i → i < l.at → LiesIn i l.hits.items ⊎ LiesIn i l.gaps.items;
}

abbrev pub decreases-loop-at : goal.decreases-loop-at
decreases-loop-at l = l.to - l.at
