use Rattle.std.proofs.Common.{◌≡◌, get_or, Some, ap, sym, ◌∙◌, arith}
use Rattle.iol_extent.specs.Extents.{ExtentMap, Extent, cell_at}
use Rattle.iol_extent.proofs.Cover.{over_past, over_before, over_at, extent_none, extent_at}
use Rattle.iol_extent.proofs.extents.Extents.over.Goals as goal

pub returns-then-found-len-clause-cell : goal.returns-then-found-len-clause-cell
returns-then-found-len-clause-cell c =
    rw (← (ap (λ (m : ExtentMap). m.extents) c.self.view_is))
    (over_past c.self.inside.pieces.extents c.count_before-found.result c.args.at c.self.invariant.apart
    (omega arith) c.count_before-found.ensures.before)

pub returns-then-piece-at-clause-cell : goal.returns-then-piece-at-clause-cell
returns-then-piece-at-clause-cell c =
    let at : c.index-piece.result.now ≡ get_or c.self.inside.pieces.extents c.count_before-found.result
    c.index-piece.result.now = c.index-piece.ensures in
    rw (← (ap (λ (m : ExtentMap). m.extents) c.self.view_is))
    (over_before c.self.inside.pieces.extents c.count_before-found.result c.args.at c.index-piece.result.now
    c.self.invariant.apart (omega arith) c.count_before-found.ensures.before at
    (omega (arith, ap (λ (x : Extent). x.at) c.piece.view_is)))

pub returns-clause-cell : goal.returns-clause-cell
returns-clause-cell c =
    let at : c.index-piece.result.now ≡ get_or c.self.inside.pieces.extents c.count_before-found.result
    c.index-piece.result.now = c.index-piece.ensures in
    rw (← (ap (λ (m : ExtentMap). m.extents) c.self.view_is))
    (over_at c.self.inside.pieces.extents c.count_before-found.result c.args.at c.index-piece.result.now
    c.self.invariant.apart (omega arith) c.count_before-found.ensures.before at
    (omega (arith, ap (λ (x : Extent). x.at) c.piece.view_is))
    (c.count_before-found.ensures.after c.index-piece.result.now (omega arith))
    ∙ ap (λ (x : Extent). Some (cell_at x c.args.at)) (sym c.piece.view_is))

pub returns-then-found-len-clause-extent : goal.returns-then-found-len-clause-extent
returns-then-found-len-clause-extent c =
    rw (← (ap (λ (m : ExtentMap). m.extents) c.self.view_is))
    (extent_none c.self.inside.pieces.extents c.args.at
    (over_past c.self.inside.pieces.extents c.count_before-found.result c.args.at c.self.invariant.apart
    (omega arith) c.count_before-found.ensures.before))

pub returns-then-piece-at-clause-extent : goal.returns-then-piece-at-clause-extent
returns-then-piece-at-clause-extent c =
    let at : c.index-piece.result.now ≡ get_or c.self.inside.pieces.extents c.count_before-found.result
    c.index-piece.result.now = c.index-piece.ensures in
    rw (← (ap (λ (m : ExtentMap). m.extents) c.self.view_is))
    (extent_none c.self.inside.pieces.extents c.args.at
    (over_before c.self.inside.pieces.extents c.count_before-found.result c.args.at c.index-piece.result.now
    c.self.invariant.apart (omega arith) c.count_before-found.ensures.before at
    (omega (arith, ap (λ (x : Extent). x.at) c.piece.view_is))))

pub returns-clause-extent : goal.returns-clause-extent
returns-clause-extent c =
    let at : c.index-piece.result.now ≡ get_or c.self.inside.pieces.extents c.count_before-found.result
    c.index-piece.result.now = c.index-piece.ensures in
    rw (← (ap (λ (m : ExtentMap). m.extents) c.self.view_is))
    (extent_at c.self.inside.pieces.extents c.count_before-found.result c.args.at c.index-piece.result.now
    c.self.invariant.apart (omega arith) c.count_before-found.ensures.before at
    (omega (arith, ap (λ (x : Extent). x.at) c.piece.view_is))
    (c.count_before-found.ensures.after c.index-piece.result.now (omega arith))
    ∙ ap (λ (x : Extent). Some x) (sym c.piece.view_is))
