use Rattle.std.proofs.Common.{◌≡◌, ◌≤◌, drop, take, length}
use Rattle.iol_extent.specs.Spans.{AreInOrder}
use Rattle.iol_cache.specs.Marks.{Marks}
use Rattle.iol_cache.specs.RangeReads.{parts_of_spans, all_entered, AllBeginAt, AreAbsent}
use Rattle.iol_cache.proofs.rank.enter_all.Given as goal

abbrev pub invariant-loop-span : goal.invariant-loop-span
invariant-loop-span l = record {
  begin : AllBeginAt l.extents.extents (drop l.span-index l.spans);
  in_order : AreInOrder 0 4294967295 (drop l.span-index l.spans);
  absent : AreAbsent l.order l.file (drop l.span-index l.spans);
  room : length (drop l.span-index l.spans) ≤ l.order.room;
  rest : all_entered l.order l.file l.extents.extents (drop l.span-index l.spans) ≡ all_entered l.fn.order l.file
      l.extents.extents l.spans;
  marked : Marks l.fn.marks l.marks (parts_of_spans l.extents.extents (take l.span-index l.spans));
}
