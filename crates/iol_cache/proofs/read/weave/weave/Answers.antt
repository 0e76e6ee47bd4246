use Rattle.std.proofs.Common.{◌≡◌, ◌∙◌, ◌+◌, ◌-◌, ◌++◌, [], All, refl, ap, sym, subst, get_or, length, take, drop, List}
use Rattle.std.proofs.Common.{ℕ, arith, append_assoc, length-append, slice_range}
use Rattle.std.proofs.lemmas.List.{drop_more, drop-drop, length-take}
use Rattle.std.proofs.Math.Seq.{drop-length}
use Rattle.std.proofs.lemmas.List.Elements.{All-head, All-tail}
use Rattle.iol_agg.proofs.Pours.{shares_then}
use Rattle.iol_extent.proofs.Alone.{ends_high}
use Rattle.iol_extent.specs.Spans.{AreInOrder}
use Rattle.iol_extent.specs.declared.spans.Span.{Span}
use Rattle.iol_hold.specs.Places.{Place, places}
use Rattle.iol_hold.specs.Texts.{bufs_of}
use Rattle.iol_cache.specs.SharedBytes.{IsCoveredSpan, places_over, slices_over}
use Rattle.iol_cache.specs.Weave.{len_beside, slices_woven, woven}
use Rattle.iol_cache.proofs.RangeReads.SharedBytes.{all_shared, length-places_over, may_share, over_there}
use Rattle.iol_cache.proofs.RangeReads.SharedBytes.{readable_places, refused_then}
use Rattle.iol_cache.proofs.RangeReads.Weave.{beside_few, may_add_part, readable_more}
use Rattle.iol_cache.proofs.RangeReads.SlicesOver.{parts_last, parts_more}
use Rattle.iol_cache.proofs.read.weave.weave.Goals as goal

abbrev no_span : Span
no_span = record { from = 0; to = 0 }

pub overflow_add-next : goal.overflow_add-next
overflow_add-next c =
    let v = c.loop-gap.invariant in
    let more = drop_more c.args.gaps.now c.loop-gap.gap-index no_span c.loop-gap-test.true in
    let few = beside_few c.args.from c.args.to c.args.gaps.now c.requires.in_order in
    let t = c.ranges.to.fits in
    record {
      fits =
          omega (arith, v.left, ap (len_beside c.loop-gap.at c.args.to) more, few, c.requires.beside.long, t);
    }

pub add_part-requires : goal.add_part-requires
add_part-requires c =
    let v = c.loop-gap.invariant in
    let g = get_or c.args.gaps.now c.loop-gap.gap-index no_span in
    let rest = drop (c.loop-gap.gap-index + 1) c.args.gaps.now in
    let more = drop_more c.args.gaps.now c.loop-gap.gap-index no_span c.loop-gap-test.true in
    let order = subst (AreInOrder c.loop-gap.at c.args.to) more v.in_order in
    let t = c.ranges.to.fits in
    may_add_part c.loop-gap.shared c.args.beside.now c.loop-gap.used (c.loop-gap.used + (g.from - c.loop-gap.at))
    c.requires.beside v.shares v.readable c.requires.few
    (omega arith) (omega (arith, v.left, ap (len_beside c.loop-gap.at c.args.to) more))
    (omega (arith, v.few, order.0, order.1, ends_high g.to c.args.to rest order.2, t))

pub returns-in-Err-clause-shared : goal.returns-in-Err-clause-shared
returns-in-Err-clause-shared c = refused_then c.loop-gap.invariant.shares c.in-Err.ensures.shared

pub share_over-requires : goal.share_over-requires
share_over-requires c =
    let v = c.loop-gap.invariant in
    let es = c.args.extents.now.extents in
    let gaps = c.args.gaps.now in
    let i = c.loop-gap.gap-index in
    let g = get_or gaps i no_span in
    let rest = drop (i + 1) gaps in
    let ps = places c.args.beside.now in
    let used = c.loop-gap.used in
    let n = g.from - c.loop-gap.at in
    let more = drop_more gaps i no_span c.loop-gap-test.true in
    let order = subst (AreInOrder c.loop-gap.at c.args.to) more v.in_order in
    let covered = All-head (IsCoveredSpan es) g rest (subst (All (IsCoveredSpan es)) more v.covered) in
    let one = c.in-Ok.ensures.places in
    let read =
    readable_more c.in-Ok.more c.loop-gap.shared c.args.beside.now _ _ one v.readable c.requires.beside.readable in
    let t = c.ranges.to.fits in
    may_share c.requires.there c.requires.few (omega arith) (shares_then v.shares c.in-Ok.ensures.shared.shares) read
    (omega (arith, order.1)) covered
    (omega (
      arith,
      ap length one,
      length-append (places c.loop-gap.shared) (slice_range ps used (used + n)),
      length-take (used + n - used) (drop used ps),
      v.few,
      order.0,
      order.1,
      ends_high g.to c.args.to rest order.2,
      t,
    ))

pub returns-in-Err-share_over-clause-shared : goal.returns-in-Err-share_over-clause-shared
returns-in-Err-share_over-clause-shared c =
    refused_then (shares_then c.loop-gap.invariant.shares c.in-Ok.ensures.shared.shares)
    c.in-Err-share_over.ensures.shared

pub loop-gap-preserved : goal.loop-gap-preserved
loop-gap-preserved c =
    let v = c.loop-gap.invariant in
    let es = c.args.extents.now.extents in
    let gaps = c.args.gaps.now in
    let i = c.loop-gap.gap-index in
    let g = get_or gaps i no_span in
    let rest = drop (i + 1) gaps in
    let at = c.loop-gap.at in
    let to = c.args.to in
    let ps = places c.args.beside.now in
    let used = c.loop-gap.used in
    let n = g.from - at in
    let more = drop_more gaps i no_span c.loop-gap-test.true in
    let order = subst (AreInOrder at to) more v.in_order in
    let covered = subst (All (IsCoveredSpan es)) more v.covered in
    let one = c.in-Ok.ensures.places in
    let two = c.in-Ok-share_over.ensures.places in
    let part : slice_range ps used (used + n) ≡ take n (drop used ps) =
    (let k : used + n - used ≡ n = omega arith in ap (λ m. take m (drop used ps)) k) in
    let over = slices_over es g.from g.to in
    let later = slices_woven c.args.beside.now es (used + n) g.to to rest in
    let left : List Place = woven (drop (used + n) ps) es g.to to rest in
    let read = readable_more c.in-Ok.more c.loop-gap.shared c.args.beside.now used (used + n) one v.readable
    c.requires.beside.readable in
    record {
      places =
          ap (λ l. l ++ left) (two
          ∙ ap (λ l. l ++ places_over es g.from g.to) (one ∙ ap (λ l. places c.loop-gap.shared ++ l) part))
          ∙ regroup (places c.loop-gap.shared) (take n (drop used ps)) (places_over es g.from g.to) left
          ∙ ap (λ l. places c.loop-gap.shared
          ++ (take n (drop used ps) ++ places_over es g.from g.to ++ woven l es g.to to rest))
          (sym (drop-drop n used ps))
          ∙ sym (ap (λ l. places c.loop-gap.shared ++ woven (drop used ps) es at to l) more) ∙ v.places;
      parts =
          parts_more c.in-Ok.more c.in-Ok-share_over.more over (over ++ later) later _ c.in-Ok-share_over.ensures.parts
          refl
          (parts_more c.loop-gap.shared c.in-Ok.more _ _ (over ++ later) _ c.in-Ok.ensures.parts
          (ap (slices_woven c.args.beside.now es used at to) more) v.parts);
      shares =
          shares_then (shares_then v.shares c.in-Ok.ensures.shared.shares) c.in-Ok-share_over.ensures.shared.shares;
      in_order = order.2;
      covered = All-tail (IsCoveredSpan es) g rest covered;
      left = omega (arith, v.left, ap (len_beside at to) more);
      few =
          omega (
            arith,
            ap length two,
            length-append (places c.in-Ok.more) (places_over es g.from g.to),
            length-places_over es g.from g.to,
            ap length one,
            length-append (places c.loop-gap.shared) (slice_range ps used (used + n)),
            ap length part,
            length-take n (drop used ps),
            v.few,
            order.0,
            order.1,
          );
      readable = readable_places c.in-Ok-share_over.more c.in-Ok.more (places_over es g.from g.to) two read
          (over_there es g.from g.to (All-head (IsCoveredSpan es) g rest covered) c.requires.there.readable);
    }
  where
    regroup : (a b d e : List Place) → ((a ++ b) ++ d) ++ e ≡ a ++ (b ++ d ++ e)
    regroup a b d e = simp append_assoc

none_left : (gs : List Span) (i : ℕ) → i ≡ length gs → drop i gs ≡ []
none_left gs i all = ap (λ n. drop n gs) all ∙ drop-length gs

pub overflow_add-end : goal.overflow_add-end
overflow_add-end c =
    let v = c.loop-gap.invariant in
    let few = beside_few c.args.from c.args.to c.args.gaps.now c.requires.in_order in
    let t = c.ranges.to.fits in
    let none =
    none_left c.args.gaps.now c.loop-gap.gap-index
    (omega (arith, c.loop-gap-test.false, c.loop-gap.auto.gap-index-end)) in
    record {
      fits =
          omega (arith, v.left, ap (len_beside c.loop-gap.at c.args.to) none, few, c.requires.beside.long, t);
    }

pub add_part-requires-2 : goal.add_part-requires-2
add_part-requires-2 c =
    let v = c.loop-gap.invariant in
    let t = c.ranges.to.fits in
    let none =
    none_left c.args.gaps.now c.loop-gap.gap-index
    (omega (arith, c.loop-gap-test.false, c.loop-gap.auto.gap-index-end)) in
    may_add_part c.loop-gap.shared c.args.beside.now c.loop-gap.used (c.loop-gap.used + (c.args.to - c.loop-gap.at))
    c.requires.beside v.shares v.readable c.requires.few
    (omega arith) (omega (arith, v.left, ap (len_beside c.loop-gap.at c.args.to) none))
    (omega (
      arith,
      v.few,
      ends_high c.loop-gap.at c.args.to (drop c.loop-gap.gap-index c.args.gaps.now) v.in_order,
      t,
    ))

pub returns-in-Err-add_part-clause-shared : goal.returns-in-Err-add_part-clause-shared
returns-in-Err-add_part-clause-shared c = refused_then c.loop-gap.invariant.shares c.in-Err-add_part.ensures.shared

pub returns-in-Ok-add_part-clause-shared : goal.returns-in-Ok-add_part-clause-shared
returns-in-Ok-add_part-clause-shared c =
    all_shared _ (shares_then c.loop-gap.invariant.shares c.in-Ok-add_part.ensures.shared.shares)

pub returns-in-Ok-add_part-clause-parts : goal.returns-in-Ok-add_part-clause-parts
returns-in-Ok-add_part-clause-parts c =
    let none =
    none_left c.args.gaps.now c.loop-gap.gap-index
    (omega (arith, c.loop-gap-test.false, c.loop-gap.auto.gap-index-end)) in
    parts_last c.loop-gap.shared _ _ _ c.in-Ok-add_part.ensures.parts
    (ap (λ gs. bufs_of c.loop-gap.shared
    ++ bufs_of (slices_woven c.args.beside.now c.args.extents.now.extents c.loop-gap.used c.loop-gap.at c.args.to
    gs)) (sym none) ∙ c.loop-gap.invariant.parts)
