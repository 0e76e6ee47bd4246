use Rattle.std.proofs.Common.{Some, ◌≡◌, get_or, ap, sym, ◌∙◌, arith}
use Rattle.iol_extent.specs.Extents.{ExtentMap, Extent}
use Rattle.iol_extent.proofs.RangeExtents.{met_found, met_missed, met_past}
use Rattle.iol_extent.proofs.extents.Extents.first_met.Goals as goal

pub returns-then-found-len : goal.returns-then-found-len
returns-then-found-len c =
    rw (← (ap (λ (m : ExtentMap). m.extents) c.self.view_is))
    (met_past c.self.inside.pieces.extents c.count_before-found.result c.args.from c.args.to c.self.invariant.apart
    (omega arith) c.count_before-found.ensures.before)

pub returns-then-piece-to : goal.returns-then-piece-to
returns-then-piece-to c =
    let x = c.index-piece.result.now in
    let at : x ≡ get_or c.self.inside.pieces.extents c.count_before-found.result x = c.index-piece.ensures in
    rw (← (ap (λ (m : ExtentMap). m.extents) c.self.view_is))
    (met_missed 0 c.self.inside.pieces.extents c.count_before-found.result c.args.from c.args.to x
    c.self.invariant.apart (omega arith) (λ j h. c.count_before-found.ensures.before j x h)
    (λ h. omega (
      arith,
      ap (λ (x : Extent). x.at) c.piece.view_is,
      ap (λ (x : Extent). x.at) at,
      c.if-piece-to.true,
    )))

pub returns : goal.returns
returns c =
    let x = c.index-piece.result.now in
    let at : x ≡ get_or c.self.inside.pieces.extents c.count_before-found.result x = c.index-piece.ensures in
    let found = met_found 0 c.self.inside.pieces.extents c.count_before-found.result c.args.from c.args.to x
    c.self.invariant.apart (omega arith) (λ j h. c.count_before-found.ensures.before j x h)
    (c.count_before-found.ensures.after x (omega arith))
    (omega (arith, ap (λ (x : Extent). x.at) c.piece.view_is, ap (λ (x : Extent). x.at) at, c.if-piece-to.false)) in
    record {
      extent = x;
      is = rw (← (ap (λ (m : ExtentMap). m.extents) c.self.view_is)) (found ∙ ap (λ (y : Extent). Some y) (sym at));
      begins = sym (ap (λ (x : Extent). x.at) c.piece.view_is);
    }
