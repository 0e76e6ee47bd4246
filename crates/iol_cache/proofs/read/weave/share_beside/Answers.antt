use Rattle.std.proofs.Common.{◌∙◌, ◌+◌, ◌++◌, ap, sym, subst, drop, get_or, length, arith, length-append}
use Rattle.std.proofs.lemmas.List.{drop_all, drop_more}
use Rattle.iol_agg.proofs.Pours.{shares_then}
use Rattle.iol_extent.proofs.Alone.{ends_high}
use Rattle.iol_extent.specs.Spans.{AreInOrder}
use Rattle.iol_extent.specs.declared.spans.Span.{Span}
use Rattle.iol_hold.specs.Places.{places}
use Rattle.iol_hold.specs.Texts.{bufs_of}
use Rattle.iol_cache.specs.SharedBytes.{places_over}
use Rattle.iol_cache.specs.Weave.{IsCoveredBeside, slices_beside}
use Rattle.iol_cache.proofs.RangeReads.SharedBytes.{all_shared, length-places_over, may_share, over_there}
use Rattle.iol_cache.proofs.RangeReads.SharedBytes.{readable_places, refused_then}
use Rattle.iol_cache.proofs.RangeReads.Weave.{beside_more}
use Rattle.iol_cache.proofs.RangeReads.SlicesOver.{parts_last, parts_more}
use Rattle.iol_cache.proofs.read.weave.share_beside.Goals as goal

abbrev no_span : Span
no_span = record { from = 0; to = 0 }

pub share_over-requires : goal.share_over-requires
share_over-requires c =
    let v = c.loop-gap.invariant in
    let g = get_or c.args.gaps.now c.loop-gap.gap-index no_span in
    let more = drop_more c.args.gaps.now c.loop-gap.gap-index no_span c.loop-gap-test.true in
    let order = subst (AreInOrder c.loop-gap.at c.args.to) more v.in_order in
    let covered = subst (IsCoveredBeside c.args.extents.now.extents c.loop-gap.at c.args.to) more v.covered in
    let end = ends_high g.to c.args.to (drop (c.loop-gap.gap-index + 1) c.args.gaps.now) order.2 in
    let t = c.ranges.to.fits in
    may_share c.requires.there c.requires.few (omega arith) v.shares v.readable order.0 covered.0
    (omega (arith, v.few, order.0, order.1, end, t))

pub share_over-requires-2 : goal.share_over-requires-2
share_over-requires-2 c =
    let v = c.loop-gap.invariant in
    let none = drop_all c.loop-gap.gap-index c.args.gaps.now c.loop-gap-test.false in
    let order = subst (AreInOrder c.loop-gap.at c.args.to) none v.in_order in
    let covered = subst (IsCoveredBeside c.args.extents.now.extents c.loop-gap.at c.args.to) none v.covered in
    let t = c.ranges.to.fits in
    may_share c.requires.there c.requires.few (omega arith) v.shares v.readable order covered
    (omega (arith, v.few, order, t))

pub returns-in-Err-clause-shared : goal.returns-in-Err-clause-shared
returns-in-Err-clause-shared c = refused_then c.loop-gap.invariant.shares c.in-Err.ensures.shared

pub loop-gap-preserved : goal.loop-gap-preserved
loop-gap-preserved c =
    let v = c.loop-gap.invariant in
    let es = c.args.extents.now.extents in
    let g = get_or c.args.gaps.now c.loop-gap.gap-index no_span in
    let more = drop_more c.args.gaps.now c.loop-gap.gap-index no_span c.loop-gap-test.true in
    let order = subst (AreInOrder c.loop-gap.at c.args.to) more v.in_order in
    let covered = subst (IsCoveredBeside es c.loop-gap.at c.args.to) more v.covered in
    let is = c.in-Ok.ensures.places in
    let over = places_over es c.loop-gap.at g.from in
    record {
      places = beside_more es (places c.loop-gap.shared) (places c.in-Ok.more) c.loop-gap.at c.args.to more is v.places;
      parts =
          parts_more c.loop-gap.shared c.in-Ok.more _ _ _ _ c.in-Ok.ensures.parts
          (ap (slices_beside es c.loop-gap.at c.args.to) more) v.parts;
      shares = shares_then v.shares c.in-Ok.ensures.shared.shares;
      in_order = order.2;
      covered = covered.1;
      few =
          omega (
            arith,
            ap length is,
            length-append (places c.loop-gap.shared) over,
            length-places_over es c.loop-gap.at g.from,
            v.few,
            order.0,
            order.1,
          );
      readable =
          readable_places c.in-Ok.more c.loop-gap.shared over is v.readable
          (over_there es c.loop-gap.at g.from covered.0 c.requires.there.readable);
    }

pub returns-in-Err-share_over-clause-shared : goal.returns-in-Err-share_over-clause-shared
returns-in-Err-share_over-clause-shared c = refused_then c.loop-gap.invariant.shares c.in-Err-share_over.ensures.shared

pub returns-in-Ok-share_over-clause-shared : goal.returns-in-Ok-share_over-clause-shared
returns-in-Ok-share_over-clause-shared c =
    all_shared _ (shares_then c.loop-gap.invariant.shares c.in-Ok-share_over.ensures.shared.shares)

pub returns-in-Ok-share_over-clause-parts : goal.returns-in-Ok-share_over-clause-parts
returns-in-Ok-share_over-clause-parts c =
    let none = drop_all c.loop-gap.gap-index c.args.gaps.now c.loop-gap-test.false in
    parts_last c.loop-gap.shared _ _ _ c.in-Ok-share_over.ensures.parts
    (ap (λ gs. bufs_of c.loop-gap.shared
    ++ bufs_of (slices_beside c.args.extents.now.extents c.loop-gap.at c.args.to gs)) (sym none)
    ∙ c.loop-gap.invariant.parts)
