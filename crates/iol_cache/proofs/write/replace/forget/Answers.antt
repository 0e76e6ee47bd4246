use Rattle.std.proofs.Common.{◌≡◌, ◌∙◌, ◌<◌, true, Some, sym, ap, subst, arith, length, List}
use Rattle.iol_hold.specs.declared.slices.Slice.{Slice}
use Rattle.iol_evict.specs.Order.{Ranking}
use Rattle.iol_extent.specs.Extents.{Extent, begins_at, extent_of, without_at}
use Rattle.iol_cache.specs.CacheState.{parts_in}
use Rattle.iol_cache.specs.Marks.{AreWithin, HaveMarks, Unmarks}
use Rattle.iol_cache.specs.Replacement.{Reindexes, forgotten_at}
use Rattle.iol_cache.proofs.RangeWrites.Replacement.{begins_over, clean_goes, dirty_goes, entry_some, marks_of}
use Rattle.iol_cache.proofs.RangeWrites.Replacement.{nothing_begins}
use Rattle.iol_cache.proofs.Evictions.Ready.{some_kept}
use Rattle.iol_cache.proofs.Extents.FewerExtents.{begins_above}
use Rattle.iol_cache.proofs.Evictions.Orders.{forgot_clean, forgot_dirty}
use Rattle.iol_cache.proofs.write.replace.forget.Goals.{In-Some}
use Rattle.iol_cache.proofs.write.replace.forget.Goals as goal

-- the extent that was found begins there
module _ (c : In-Some) where
  abbrev es : List Extent
  es = c.args.extents.now.extents

  abbrev x : Extent
  x = extent_of c.in-Some._begin c.in-Some.agg.now c.in-Some.dirty

  begins : begins_at es c.args.at ≡ Some x
  begins = begins_over es c.args.at x c.requires.indexed.apart c.requires.begins c.in-Some.ensures.extent

  -- for a dirty one a place is kept
  kept : x.dirty ≡ true → 0 < c.args.order.now.kept
  kept is = some_kept c.args.order.now es c.args.at x begins is c.requires.indexed.ready

pub returns-in_default : goal.returns-in_default
returns-in_default c =
    absurd (nothing_begins c.args.extents.now.extents c.args.at c.requires.indexed.apart c.requires.begins
    c.in_default.ensures.extent)

-- A dirty one.

pub give_back-requires : goal.give_back-requires
give_back-requires c = kept (goal.at.give_back-requires c).In-Some c.if-dirty.true

pub returns-then-dirty : goal.returns-then-dirty
returns-then-dirty c =
    let at = (goal.at.returns-then-dirty c).In-Some in
    record {
      follows =
          subst (λ (r : Ranking). Reindexes c.args.file (es at) (without_at (es at) c.args.at) c.args.order.now r
          c.args.marks.now c.args.marks.now) (sym c.give_back.ensures)
          (dirty_goes c.args.file (es at) c.args.at (x at) c.args.order.now c.args.marks.now (begins at) c.if-dirty.true
          (kept at c.if-dirty.true));
      order = forgot_dirty c.args.order.now c.give_back.new.self c.args.file (x at) c.if-dirty.true c.give_back.ensures
          ∙ sym (ap (forgotten_at c.args.order.now c.args.file) (begins at));
      room = omega (arith, ap (λ (r : Ranking). r.room) c.give_back.ensures);
    }

-- A clean one.

pub set_clean-requires-clause-within : goal.set_clean-requires-clause-within
set_clean-requires-clause-within c =
    subst (λ (xs : List Slice). AreWithin (length c.args.marks.now) xs)
    (ap parts_in (begins (goal.at.set_clean-requires-clause-within c).In-Some) ∙ sym c.slices.ensures) c.requires.within

pub set_clean-requires-clause-can : goal.set_clean-requires-clause-can
set_clean-requires-clause-can c =
    let at = (goal.at.set_clean-requires-clause-can c).In-Some in
    subst (HaveMarks c.args.marks.now) (sym c.slices.ensures)
    (marks_of c.args.marks.now (es at) c.args.at (x at) (begins at) c.if-dirty.false c.requires.indexed.marked)

pub leave-requires : goal.leave-requires
leave-requires c =
    let at = (goal.at.leave-requires c).In-Some in
    entry_some c.args.file (es at) c.args.at (x at) c.args.order.now c.requires.indexed.apart (begins at)
    c.if-dirty.false c.requires.indexed.ranked

pub returns : goal.returns
returns c =
    let at = (goal.at.returns c).In-Some in
    let unmarks = subst (Unmarks c.args.marks.now c.set_clean.new.self) c.slices.ensures c.set_clean.ensures in
    record {
      follows =
          subst (λ (r : Ranking). Reindexes c.args.file (es at) (without_at (es at) c.args.at) c.args.order.now r
          c.args.marks.now c.set_clean.new.self) (sym c.leave.ensures)
          (clean_goes c.args.file (es at) c.args.at (x at) c.args.order.now c.args.marks.now c.set_clean.new.self
          c.requires.indexed.apart (begins at) c.if-dirty.false c.requires.indexed.ranked unmarks);
      order = forgot_clean c.args.order.now c.leave.new.self c.args.file c.args.at (x at) c.if-dirty.false
          (begins_above 0 (es at) c.args.at (x at) c.requires.indexed.apart (begins at)).1 c.leave.ensures
          ∙ sym (ap (forgotten_at c.args.order.now c.args.file) (begins at));
      room = omega (arith, ap (λ (r : Ranking). r.room) c.leave.ensures);
    }
