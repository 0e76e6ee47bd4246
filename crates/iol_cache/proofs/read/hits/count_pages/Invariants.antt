use Rattle.std.proofs.Common.{◌≡◌, ◌+◌, drop}
use Rattle.iol_extent.specs.Spans.{AreInOrder}
use Rattle.iol_cache.specs.Gaps.{gap_pages}
use Rattle.iol_cache.proofs.read.hits.count_pages.Given as goal

abbrev pub invariant-loop-gap : goal.invariant-loop-gap
invariant-loop-gap l = record {
  so_far : l.pages + gap_pages (drop l.gap-index l.gaps) ≡ gap_pages l.gaps;
  in_order : AreInOrder 0 4294967295 (drop l.gap-index l.gaps);
}
