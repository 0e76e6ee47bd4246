use Rattle.std.proofs.Common.{◌≡◌, ◌+◌, ◌∙◌, [], drop, length, ap, subst, arith}
use Rattle.std.proofs.lemmas.List.{drop_more}
use Rattle.std.proofs.Math.Seq.{drop-length}
use Rattle.iol_arena.specs.State.{pages_for}
use Rattle.iol_extent.specs.Spans.{AreInOrder}
use Rattle.iol_extent.specs.declared.spans.Span.{Span}
use Rattle.iol_cache.specs.Gaps.{gap_pages}
use Rattle.iol_cache.proofs.Evictions.Entries.{order_lower}
use Rattle.iol_cache.proofs.Evictions.Roomy.{gap_few}
use Rattle.iol_cache.proofs.read.hits.count_pages.Goals as goal

abbrev none : Span
none = record { from = 0; to = 0 }

pub loop-gap-init : goal.loop-gap-init
loop-gap-init c = record { so_far = omega arith; in_order = c.requires }

pub overflow_sub-gap : goal.overflow_sub-gap
overflow_sub-gap c =
    let o = subst (AreInOrder 0 4294967295) (drop_more c.args.gaps.now c.loop-gap.gap-index none c.loop-gap-test.true)
    c.loop-gap.invariant.in_order in
    omega (arith, o.1)

pub overflow_add-pages : goal.overflow_add-pages
unfolding pages_for
overflow_add-pages c =
    let more = drop_more c.args.gaps.now c.loop-gap.gap-index none c.loop-gap-test.true in
    let few = gap_few 0 4294967295 c.args.gaps.now c.requires in
    record { fits = omega (arith, few, ap gap_pages more, c.loop-gap.invariant.so_far, c.div_ceil-pages.ensures) }

pub loop-gap-preserved : goal.loop-gap-preserved
unfolding pages_for
loop-gap-preserved c =
    let more = drop_more c.args.gaps.now c.loop-gap.gap-index none c.loop-gap-test.true in
    let o = subst (AreInOrder 0 4294967295) more c.loop-gap.invariant.in_order in
    record {
      so_far = omega (arith, ap gap_pages more, c.loop-gap.invariant.so_far, c.div_ceil-pages.ensures);
      in_order = order_lower _ 4294967295 (drop (c.loop-gap.gap-index + 1) c.args.gaps.now) o.2;
    }

pub returns : goal.returns
returns c =
    let all : c.loop-gap.gap-index ≡ length c.args.gaps.now =
    omega (arith, c.loop-gap-test.false, c.loop-gap.auto.gap-index-end) in
    let none_left : drop c.loop-gap.gap-index c.args.gaps.now ≡ [] = ap (λ n. drop n c.args.gaps.now) all
    ∙ drop-length c.args.gaps.now in
    omega (arith, c.loop-gap.invariant.so_far, ap gap_pages none_left)
