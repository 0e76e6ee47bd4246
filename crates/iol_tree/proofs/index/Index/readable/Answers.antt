use Rattle.std.proofs.Common.{◌∙◌, rules, arith, string_bytes}
use Rattle.iol_tree.proofs.Parts.{part_none, part_added, part_skipped, part_of}
use Rattle.iol_tree.proofs.index.Index.readable.Goals as goal
use Rattle.iol_tree.proofs.index.Index.readable.Goals.{then-takes+then-not-is_denied+in_ok-from_str+in_ok-add}
use Rattle.iol_tree.proofs.index.Index.readable.Goals.{else-takes}

pub loop-place-init : goal.loop-place-init
loop-place-init g c =
    part_none c.args.self.now c.new-index.result (string_bytes c.in_ok-root.root) c.skipped.result c.new-index.ensures
    (search rules) c.skipped.ensures c.skipped.type_inv

pub loop-place-preserved : goal.loop-place-preserved
loop-place-preserved g c = elim c.if-takes.branch [
  | then-takes+then-not-is_denied+in_ok-from_str+in_ok-add w ↦
      part_added c.args.self.now c.loop-place.index c.if-takes.index c.loop-place.place
      (string_bytes w.in_ok-from_str.field-0) w.stamp.result c.loop-place.invariant
      (search (rules, c.name-name.ensures, w.in_ok-from_str.ensures.ok)) w.stamp.ensures
      (w.index-is ∙ w.in_ok-add.ensures.added)
  | else-takes w ↦
      part_skipped c.args.self.now c.loop-place.index c.if-takes.index c.loop-place.place c.loop-place.invariant
      (w.index-is ∙ w.skip.ensures)
]

pub returns : goal.returns
returns g c =
    part_of c.args.self.now c.loop-place.index c.loop-place.place
    (omega (arith, c.loop-place-test.false, c.loop-place.auto.place-end, c.count-place-end.ensures.count))
    c.loop-place.invariant
