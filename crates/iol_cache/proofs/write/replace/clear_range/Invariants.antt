use Rattle.std.proofs.Common.{◌≡◌, length}
use Rattle.std.specs.List.{filter}
use Rattle.iol_extent.specs.Extents.{meets, unmet}
use Rattle.iol_cache.specs.Replacement.{LetsGo, all_forgotten, indexing_of}
use Rattle.iol_cache.proofs.write.replace.clear_range.Given as goal

abbrev pub invariant-loop-at : goal.invariant-loop-at
invariant-loop-at l = record {
  others : unmet l.extents.extents l.from l.to ≡ unmet l.fn.extents.extents l.from l.to;
  forgets : all_forgotten l.order l.file (filter (meets l.from l.to) l.extents.extents)
      ≡ all_forgotten l.fn.order l.file (filter (meets l.from l.to) l.fn.extents.extents);
  gone : LetsGo l.file l.fn.store l.store (indexing_of l.fn.extents l.fn.order l.fn.marks)
      (indexing_of l.extents l.order l.marks);
}

abbrev pub decreases-loop-at : goal.decreases-loop-at
decreases-loop-at l = length l.extents.extents
