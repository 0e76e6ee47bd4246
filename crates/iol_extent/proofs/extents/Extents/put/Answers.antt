use Rattle.std.proofs.Common.{◌≡◌, insert, ap, sym, ◌∙◌, subst, arith}
use Rattle.iol_extent.specs.Extents.{AreCleanBefore, dirty_count, ExtentMap, Extent, extent_of, end_of, IsApart, IsGap}
use Rattle.iol_extent.specs.Extents.{put_in}
use Rattle.iol_extent.proofs.Cover.{put_apart, adds_insert, last_end_insert}
use Rattle.iol_extent.proofs.CleanExtents.{clean_insert, clean_lower, dirty_insert}
use Rattle.iol_extent.proofs.Counts.{dirty_few, one_few}
use Rattle.iol_extent.proofs.Words.{put_insert}
use Rattle.iol_extent.proofs.extents.Extents.put.Goals.{After-insert}
use Rattle.iol_extent.proofs.extents.Extents.put.Goals as goal

gap : (c : After-insert)
    → IsGap c.self.inside.pieces.extents c.args.at (end_of (extent_of c.args.at c.args.agg c.args.dirty))
gap c = rw ((ap (λ (m : ExtentMap). m.extents) c.self.view_is)) c.requires.gap

apart : (c : After-insert) → IsApart 0 c.insert.new.self.extents
apart c =
    let place = c.count_before-place in
    subst (IsApart 0) (sym c.insert.ensures.extents)
    (put_apart c.self.inside.pieces.extents place.result (extent_of c.args.at c.args.agg c.args.dirty)
    c.self.invariant.apart place.ensures.within place.ensures.before place.ensures.after c.requires.some (gap c))

pub overflow_add-self : goal.overflow_add-self
overflow_add-self c =
    omega (
      arith,
      c.self.invariant.dirty,
      dirty_few c.self.inside.pieces.extents,
      c.insert.ensures.few,
      c.count_dirty.ensures,
      one_few (extent_of c.args.at c.args.agg c.args.dirty),
    )

pub invariant_of-self : goal.invariant_of-self
invariant_of-self c =
    let ps = c.self.inside.pieces.extents in
    let new : Extent = extent_of c.args.at c.args.agg c.args.dirty in
    let items : c.insert.new.self.extents ≡ insert ps c.count_before-place.result new = c.insert.ensures.extents in
    record {
      apart = apart (goal.at.invariant_of-self c).After-insert;
      dirty =
          omega (
            arith,
            c.self.invariant.dirty,
            c.count_dirty.ensures,
            dirty_insert ps c.count_before-place.result new,
            ap dirty_count items,
          );
      clean =
          subst (AreCleanBefore c.clean_with-self-inside.result) (sym items)
          (clean_insert c.clean_with-self-inside.result ps c.count_before-place.result new
          (clean_lower c.self.inside.clean_to c.clean_with-self-inside.result ps c.clean_with-self-inside.ensures.lower
          c.self.invariant.clean) c.clean_with-self-inside.ensures.clean);
    }

pub returns-clause-adds : goal.returns-clause-adds
returns-clause-adds c =
    let new : Extent = extent_of c.args.at c.args.agg c.args.dirty in
    rw (c.insert.ensures.extents, (ap (λ (m : ExtentMap). m.extents) c.self.view_is))
    (adds_insert c.args.self.now.extents c.count_before-place.result new c.requires.gap)

pub returns-clause-ends : goal.returns-clause-ends
returns-clause-ends c =
    let new : Extent = extent_of c.args.at c.args.agg c.args.dirty in
    rw (c.insert.ensures.extents, (ap (λ (m : ExtentMap). m.extents) c.self.view_is))
    (last_end_insert c.args.self.now.extents c.count_before-place.result new)

pub returns-clause-extents : goal.returns-clause-extents
returns-clause-extents c =
    let place = c.count_before-place in
    let new : Extent = extent_of c.args.at c.args.agg c.args.dirty in
    c.insert.ensures.extents
    ∙ put_insert c.self.inside.pieces.extents place.result new c.self.invariant.apart place.ensures.within
    place.ensures.before place.ensures.after c.requires.some (gap (goal.at.returns-clause-extents c).After-insert)
    ∙ ap (λ (m : ExtentMap). put_in m.extents new) c.self.view_is

pub returns-clause-apart : goal.returns-clause-apart
returns-clause-apart c = apart (goal.at.returns-clause-apart c).After-insert
