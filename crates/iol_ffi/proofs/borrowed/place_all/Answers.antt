-- Each turn writes the next part.
use Rattle.std.proofs.Common.{rules, ◌≡◌, ◌+◌, ◌∙◌, ap, min, subst, arith, length, length-append}
use Rattle.iol_hold.specs.Addresses.{located}
use Rattle.iol_ffi.specs.Parts.{WritesBelow, all_bytes}
use Rattle.iol_ffi.proofs.Placing.{left_turn, writes_none, writes_turn}
use Rattle.iol_ffi.proofs.borrowed.place_all.Goals as goal

pub loop-part-init : goal.loop-part-init
loop-part-init c = record {
  can = search (rules);
  finite = search (rules);
  count_fits = search (rules);
  len_fits = search (rules);
  parts = search (rules);
  bytes = search (rules);
  rest = λ few. c.into_iter-part-iterator.ensures.into_iter_gives;
  written = writes_none c.args.parts c.args.skip c.args.room.now;
}

pub loop-part-preserved : goal.loop-part-preserved
loop-part-preserved c =
    let h = c.loop-part.invariant in
    let first = c.in-Some.ensures.steps in
    let next = c.saturating_add-count.ensures in
    let bytes = c.in-Some.part.now in
    let part = located c.in-Some.part in
    let left = c.next.new.self in
    let whole : length (all_bytes c.loop-part.part-iterator) ≡ length bytes + length (all_bytes left) =
    ap (λ l. length (all_bytes l)) first ∙ length-append bytes (all_bytes left) in
    record {
      can = search (rules);
      finite = search (rules);
      count_fits = search (rules);
      len_fits = search (rules);
      parts = search (rules);
      bytes = omega (arith, c.saturating_add-len.ensures, h.bytes, h.len_fits, whole);
      rest = left_turn c.loop-part.count _ c.args.parts c.loop-part.part-iterator left part next h.rest first;
      written = writes_turn c.loop-part.count _ c.args.parts c.loop-part.part-iterator left part c.args.skip
          c.args.room.now c.loop-part.room c.place_numbered.new.room next h.count_fits h.rest first
          c.place_numbered.ensures h.written;
    }

pub returns-clause-written : goal.returns-clause-written
returns-clause-written c =
    let h = c.loop-part.invariant in
    let parts = rw c.in-None.ensures.steps.0 at h.parts in
    let all : c.loop-part.count ≡ min (length c.args.parts) 18446744073709551615 = omega (arith, parts, h.count_fits) in
    subst (λ n. WritesBelow n c.args.parts c.args.skip c.args.room.now c.loop-part.room) all h.written
