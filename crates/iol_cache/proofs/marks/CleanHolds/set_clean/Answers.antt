use Rattle.std.proofs.Common.{arith, ap, ◌∙◌, sym, subst, length, ℕ, List, get_or, set, take}
use Rattle.iol_core.specs.declared.numbers.BufId.{BufId}
use Rattle.iol_cache.specs.Marks.{CanTurn, turned}
use Rattle.iol_cache.proofs.Evictions.Marks.{few_at, some_at, turn_long, turn_more, turn_none, within_at}
use Rattle.iol_cache.proofs.marks.CleanHolds.set_clean.Goals as goal

pub loop-slice-init : goal.loop-slice-init
loop-slice-init c = turn_none c.args.is_clean c.self.inside.marks.items

pub turn_one-requires : goal.turn_one-requires
turn_one-requires c =
    let old = c.self.inside.marks.items in
    let now = c.loop-slice.self-inside.marks.items in
    let xs = c.args.slices.now in
    let i = c.loop-slice.slice-index in
    let x = c.slice-item.result in
    let w = within_at (length c.args.self.now) xs i x c.requires.within c.loop-slice-test.true c.slice-item.is in
    let can = subst (λ (m : List ℕ). CanTurn c.args.is_clean m xs) (sym c.self.view_is) c.requires.can in
    record {
      within =
          omega (
            arith,
            w,
            ap (λ (b : BufId). b.page) c.buf.ensures,
            turn_long c.args.is_clean old now (take i xs) c.loop-slice.invariant,
            ap length c.self.view_is,
          );
      few =
          λ more. (let f = few_at c.args.is_clean more old now xs i x c.loop-slice.invariant can c.loop-slice-test.true
          c.slice-item.is in rw c.buf.ensures f);
      some =
          λ fewer. (let f =
          some_at c.args.is_clean fewer old now xs i x c.loop-slice.invariant can c.loop-slice-test.true
          c.slice-item.is in rw c.buf.ensures f);
    }

pub loop-slice-preserved : goal.loop-slice-preserved
loop-slice-preserved c =
    let now = c.loop-slice.self-inside.marks.items in
    let x = c.slice-item.result in
    let w = within_at (length c.args.self.now) c.args.slices.now c.loop-slice.slice-index x c.requires.within
    c.loop-slice-test.true c.slice-item.is in
    let can = subst (λ (m : List ℕ). CanTurn c.args.is_clean m c.args.slices.now) (sym c.self.view_is) c.requires.can in
    turn_more c.args.is_clean c.self.inside.marks.items now c.turn_one.new.marks.items c.args.slices.now
    c.loop-slice.slice-index x c.loop-slice.invariant can c.loop-slice-test.true c.slice-item.is
    (omega (
      arith,
      w,
      turn_long c.args.is_clean c.self.inside.marks.items c.loop-slice.self-inside.marks.items
          (take c.loop-slice.slice-index c.args.slices.now) c.loop-slice.invariant,
      ap length c.self.view_is,
    ))
    (c.turn_one.ensures ∙ ap (λ (b : BufId). set now b.page (turned c.args.is_clean (get_or now b.page 0)))
    c.buf.ensures)
