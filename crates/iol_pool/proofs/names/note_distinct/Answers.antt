use Rattle.std.proofs.Common.{◌∙◌, [], ◌∷◌, sym, ap, arith, length, take, length-append}
use Rattle.iol_pool.proofs.Distinct.{step_named, step_new, take_set, too_many}
use Rattle.iol_pool.proofs.names.note_distinct.Goals as goal

pub loop-d-preserved-then-is_named : goal.loop-d-preserved-then-is_named
loop-d-preserved-then-is_named c =
    let e = step_named c.args.list.now (take c.loop-d.count c.loop-d.found) c.loop-d.d-index c.d-item.result
    (omega arith) c.d-item.is c.loop-d.invariant.found (sym c.is_named.ensures ∙ c.if-is_named.true) in
    record {
      found = sym e;
      count = c.loop-d.invariant.count ∙ ap length (sym c.loop-d.invariant.found ∙ sym e);
      few = c.loop-d.invariant.few;
    }

pub returns-then-count-eq-MAX_LISTED-clause-count : goal.returns-then-count-eq-MAX_LISTED-clause-count
returns-then-count-eq-MAX_LISTED-clause-count c =
    too_many c.args.list.now (take c.loop-d.count c.loop-d.found) c.loop-d.d-index c.d-item.result (omega arith)
    c.d-item.is c.loop-d.invariant.found (sym c.is_named.ensures ∙ c.if-is_named.false)
    (ap length c.loop-d.invariant.found ∙ sym c.loop-d.invariant.count ∙ c.if-count-eq-MAX_LISTED.true)

pub loop-d-preserved : goal.loop-d-preserved
loop-d-preserved c =
    let e = step_new c.args.list.now (take c.loop-d.count c.loop-d.found) c.loop-d.d-index c.d-item.result (omega arith)
    c.d-item.is c.loop-d.invariant.found (sym c.is_named.ensures ∙ c.if-is_named.false) in
    let t = take_set c.loop-d.found c.loop-d.count c.d-item.result (omega arith) in
    let l = length-append (take c.loop-d.count c.loop-d.found) (c.d-item.result ∷ []) in
    let n = ap length e in
    let k = ap length c.loop-d.invariant.found in
    record {
      found = t ∙ sym e;
      count = omega (arith, n, l, k);
      few = omega arith;
    }
