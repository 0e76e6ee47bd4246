use Rattle.std.proofs.Common.{◌+◌, ◌-◌, ◌/◌, ◌∙◌, ap, sym, arith}
use Rattle.std.proofs.lemmas.List.{get_or_default}
use Rattle.iol_extent.specs.Extents.{end_of}
use Rattle.iol_extent.proofs.Cover.{ends_rise}
use Rattle.iol_extent.proofs.pieces.count_before.Goals as goal

pub loop-low-preserved-then-end-at : goal.loop-low-preserved-then-end-at
loop-low-preserved-then-end-at c =
    record {
      ordered = omega arith;
      within = c.loop-low.invariant.within;
      before = λ k d below.
          let m = c.loop-low.low + (c.loop-low.high - c.loop-low.low) / 2 in
          let here = get_or_default c.args.pieces.now.extents m d c.index-piece.result.now (omega arith)
          ∙ sym c.index-piece.ensures in
          let end = ap end_of here ∙ sym c.end.ensures in
          let rise = ends_rise 0 c.args.pieces.now.extents k m d c.requires (omega arith) (omega arith) in
          omega (arith, rise, end);
      after = c.loop-low.invariant.after;
    }
