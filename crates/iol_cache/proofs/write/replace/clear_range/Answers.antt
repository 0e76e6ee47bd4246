use Rattle.std.proofs.Common.{◌∙◌, ◌<◌, IsSome, sym, ap, subst, refl, length, List}
use Rattle.std.specs.List.{filter}
use Rattle.iol_extent.specs.Extents.{Extent, meets, unmet}
use Rattle.iol_extent.proofs.RangeExtents.{unmet_none}
use Rattle.iol_hold.specs.Texts.{bufs_of}
use Rattle.iol_hold.specs.Moves.{Counts}
use Rattle.iol_cache.specs.CacheState.{all_parts}
use Rattle.iol_cache.proofs.RangeWrites.InPlace.{gone_on}
use Rattle.iol_cache.proofs.RangeWrites.Replacement.{counts_part, fewer, met_begins_at, met_less}
use Rattle.iol_cache.specs.Replacement.{all_forgotten, forgotten_at}
use Rattle.iol_cache.proofs.Evictions.Orders.{forgot_first, met_none}
use Rattle.iol_cache.proofs.write.replace.clear_range.Goals as goal

pub take_out-requires-clause-begins : goal.take_out-requires-clause-begins
take_out-requires-clause-begins c =
    subst IsSome
    (sym (met_begins_at c.loop-at.extents.extents c.args.from c.args.to c.in-Some.at
    c.loop-at.invariant.gone.left.indexed.apart c.in-Some.ensures)) refl

pub loop-at-smaller : goal.loop-at-smaller
loop-at-smaller c =
    let es = c.loop-at.extents.extents in
    subst (λ (xs : List Extent). length xs < length es) (sym c.take_out.ensures.extents)
    (fewer es c.in-Some.at c.in-Some.ensures.extent
    (met_begins_at es c.args.from c.args.to c.in-Some.at c.loop-at.invariant.gone.left.indexed.apart
    c.in-Some.ensures))

pub loop-at-preserved : goal.loop-at-preserved
loop-at-preserved c =
    let v = c.loop-at.invariant in
    let es = c.loop-at.extents.extents in
    let first = c.in-Some.ensures in
    let out = c.take_out.ensures in
    let apart = v.gone.left.indexed.apart in
    let begins = met_begins_at es c.args.from c.args.to c.in-Some.at apart first in
    record {
      others = ap (λ (xs : List Extent). unmet xs c.args.from c.args.to) out.extents
          ∙ met_less es c.args.from c.args.to c.in-Some.at apart first ∙ v.others;
      forgets =
          ap (λ (xs : List Extent). all_forgotten c.take_out.new.order c.args.file
          (filter (meets c.args.from c.args.to) xs)) out.extents
          ∙ forgot_first c.loop-at.order c.take_out.new.order c.args.file c.args.from c.args.to c.in-Some.at es apart
          first (out.order ∙ ap (forgotten_at c.loop-at.order c.args.file) begins)
          ∙ v.forgets;
      gone = gone_on v.gone out.gone (counts_part es c.in-Some.at first.extent begins
          (subst (λ (xs : List Extent). Counts c.loop-at.store c.take_out.new.store (bufs_of (all_parts es))
          (bufs_of (all_parts xs))) out.extents out.gone.moves.counts));
    }

pub returns : goal.returns
returns c =
    let v = c.loop-at.invariant in
    let es = c.loop-at.extents.extents in
    record {
      extents = sym (unmet_none es c.args.from c.args.to c.in_default.ensures) ∙ v.others;
      order =
          sym (ap (all_forgotten c.loop-at.order c.args.file) (met_none es c.args.from c.args.to c.in_default.ensures))
          ∙ v.forgets;
      gone = v.gone;
    }
