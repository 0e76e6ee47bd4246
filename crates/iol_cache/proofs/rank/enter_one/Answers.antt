use Rattle.std.proofs.Common.{◌∙◌, ap, sym, subst, arith, List, length}
use Rattle.iol_hold.specs.Places.{byte_len}
use Rattle.iol_hold.specs.declared.slices.Slice.{Slice}
use Rattle.iol_evict.specs.Order.{entered}
use Rattle.iol_cache.specs.Marks.{Marks, AreWithin, HasMarksLeft}
use Rattle.iol_cache.proofs.Evictions.RankedEntries.{entry_absent}
use Rattle.iol_cache.proofs.Evictions.Entries.{begin_is, begin_not, begin_some}
use Rattle.iol_cache.proofs.rank.enter_one.Goals as goal

pub returns-in_default : goal.returns-in_default
returns-in_default c =
    absurd (begin_not c.args.extents.now.extents c.args.at c.requires.apart c.requires.begins
    c.in_default.ensures.extent)

pub set_clean-requires-clause-within : goal.set_clean-requires-clause-within
set_clean-requires-clause-within c =
    let is = c.slices.ensures ∙ begin_is c.args.extents.now.extents c.args.at _ c.requires.apart c.requires.begins
    c.in-Some.ensures.extent in
    subst (λ (xs : List Slice). AreWithin (length c.args.marks.now) xs) (sym is) c.requires.within

pub set_clean-requires-clause-can : goal.set_clean-requires-clause-can
set_clean-requires-clause-can c =
    let is = c.slices.ensures ∙ begin_is c.args.extents.now.extents c.args.at _ c.requires.apart c.requires.begins
    c.in-Some.ensures.extent in
    subst (HasMarksLeft c.args.marks.now) (sym is) c.requires.few

pub enter-requires-clause-absent : goal.enter-requires-clause-absent
enter-requires-clause-absent c = entry_absent c.args.order.now.entries c.args.file c.args.at c.requires.absent

pub enter-requires-clause-sized : goal.enter-requires-clause-sized
enter-requires-clause-sized c =
    let is =
    begin_is c.args.extents.now.extents c.args.at _ c.requires.apart c.requires.begins c.in-Some.ensures.extent in
    omega (
      arith,
      c.len.ensures,
      ap byte_len is,
      begin_some c.args.extents.now.extents c.args.at c.requires.apart
          c.requires.begins,
    )

pub returns : goal.returns
returns c =
    let is =
    begin_is c.args.extents.now.extents c.args.at _ c.requires.apart c.requires.begins c.in-Some.ensures.extent in
    record {
      order = c.enter.ensures ∙ ap (λ n. entered c.args.order.now c.args.file c.args.at n 1) (c.len.ensures
          ∙ ap byte_len is);
      marks = subst (Marks c.args.marks.now c.set_clean.new.self) (c.slices.ensures ∙ is) c.set_clean.ensures;
    }
