use Rattle.std.proofs.Common.{◌∙◌, List, [], false, drop, ap, sym, arith}
use Rattle.iol_extent.specs.Extents.{Extent, ExtentMap, dirty_in, extent_of}
use Rattle.iol_extent.proofs.CleanExtents.{none_dirty, search_on}
use Rattle.iol_extent.proofs.extents.Extents.first_dirty.Goals as goal

pub returns-then-self-eq0 : goal.returns-then-self-eq0
returns-then-self-eq0 c = ap dirty_in (sym (ap (λ (m : ExtentMap). m.extents) c.self.view_is))
    ∙ none_dirty c.self.inside.pieces.extents (omega (arith, c.self.invariant.dirty, c.if-self-eq0.true))

pub loop-i-init : goal.loop-i-init
loop-i-init c =
    let nowhere : Extent = extent_of 0 [] false in
    let v = ap (λ (m : ExtentMap). m.extents) c.self.view_is in
    ap (λ (l : List Extent). dirty_in (drop c.count_before-from.result l)) (sym v)
    ∙ search_on 0 c.self.inside.pieces.extents c.count_before-from.result c.self.inside.clean_to nowhere
    c.self.invariant.apart c.self.invariant.clean c.count_before-from.ensures.within
    (λ j l. c.count_before-from.ensures.before j nowhere l) ∙ ap dirty_in v
