use Rattle.std.proofs.Common.{◌∙◌, ◌+◌, ap, sym, subst, arith, List, length, take, drop, get_or, refl}
use Rattle.std.proofs.lemmas.List.{drop_more}
use Rattle.iol_extent.specs.Spans.{AreInOrder}
use Rattle.iol_extent.specs.declared.spans.Span.{Span}
use Rattle.iol_hold.specs.declared.slices.Slice.{Slice}
use Rattle.iol_evict.specs.Order.{Ranking}
use Rattle.iol_cache.specs.Marks.{Marks, AreWithin}
use Rattle.iol_cache.specs.RangeReads.{parts_from, parts_of_spans, all_entered, AllBeginAt, AreAbsent}
use Rattle.iol_cache.proofs.Evictions.Entries.{marks_nothing, marks_then, parts-take_more, few_left, order_lower}
use Rattle.iol_cache.proofs.Evictions.Entries.{absent_after}
use Rattle.iol_cache.proofs.rank.enter_all.Goals as goal

abbrev none : Span
none = record { from = 0; to = 0 }

pub loop-span-init : goal.loop-span-init
loop-span-init c = record {
  begin = c.requires.begin;
  in_order = c.requires.in_order;
  absent = c.requires.absent;
  room = c.requires.room;
  rest = refl;
  marked = marks_nothing c.args.marks.now;
}

pub enter_one-requires : goal.enter_one-requires
enter_one-requires c =
    let es = c.args.extents.now.extents in
    let ss = c.args.spans.now in
    let i = c.loop-span.span-index in
    let s = get_or ss i none in
    let v = c.loop-span.invariant in
    let more = drop_more ss i none c.loop-span-test.true in
    record {
      apart = c.requires.apart;
      begins = (subst (AllBeginAt es) more v.begin).0;
      absent = (subst (AreAbsent c.loop-span.order c.args.file) more v.absent).0;
      room = omega (arith, v.room, ap length more);
      within = subst (λ n. AreWithin n (parts_from es s)) (sym v.marked.long) (c.requires.within.each s.from);
      few = few_left c.args.marks.now c.loop-span.marks es ss i none c.loop-span-test.true v.marked c.requires.few;
    }

pub loop-span-preserved : goal.loop-span-preserved
loop-span-preserved c =
    let es = c.args.extents.now.extents in
    let ss = c.args.spans.now in
    let i = c.loop-span.span-index in
    let s = get_or ss i none in
    let rest = drop (i + 1) ss in
    let f = c.args.file in
    let more = drop_more ss i none c.loop-span-test.true in
    let order = subst (AreInOrder 0 4294967295) more c.loop-span.invariant.in_order in
    let is = c.enter_one.ensures.order in
    record {
      begin = (subst (AllBeginAt es) more c.loop-span.invariant.begin).1;
      in_order = order_lower s.to 4294967295 rest order.2;
      absent =
          subst (λ r. AreAbsent r f rest) (sym is)
          (absent_after c.loop-span.order f s.from _ 1 s.to 4294967295 rest order.1 order.2
          (subst (AreAbsent c.loop-span.order f) more c.loop-span.invariant.absent).1);
      room = omega (arith, ap (λ (r : Ranking). r.room) is, c.loop-span.invariant.room, ap length more);
      rest = ap (λ r. all_entered r f es rest) is ∙ sym (ap (all_entered c.loop-span.order f es) more)
          ∙ c.loop-span.invariant.rest;
      marked =
          subst (λ (xs : List Slice). Marks c.args.marks.now c.enter_one.new.marks xs)
          (sym (parts-take_more es ss i none c.loop-span-test.true))
          (marks_then (parts_of_spans es (take i ss)) (parts_from es s) c.loop-span.invariant.marked
          c.enter_one.ensures.marks);
    }
