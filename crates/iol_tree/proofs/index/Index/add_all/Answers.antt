use Rattle.std.proofs.Common.{ap, arith, length, string_bytes, subst}
use Rattle.std.proofs.lemmas.List.{length_push}
use Rattle.iol_tree.specs.Index.{ListsOrCounts}
use Rattle.iol_tree.proofs.Listed.{listed_none, listed_more}
use Rattle.iol_tree.proofs.index.Index.add_all.Goals as goal

pub loop-name-init : goal.loop-name-init
loop-name-init g c = record {
  lists = listed_none c.args.self.now (omega (arith, c.skipped-skipped.ensures, c.skipped-skipped.type_inv));
  count = omega (arith, ap length c.into_iter-name-iterator.ensures.into_iter_gives.0);
}

pub loop-name-preserved : goal.loop-name-preserved
loop-name-preserved g c =
    let longer = length_push c.loop-name.yielded c.in-Some.name in
    record {
      lists = listed_more c.args.self.now c.loop-name.self c.add_found.new.self _ _ (string_bytes c.in-Some.name)
          c.loop-name.invariant.lists c.in_ok-add_found.ensures longer;
      count = omega (arith, longer, c.loop-name.invariant.count, ap length c.in-Some.ensures.steps.0);
    }

pub returns : goal.returns
returns g c =
    subst (λ n. ListsOrCounts n c.args.self.now c.loop-name.self)
    (omega (arith, c.loop-name.invariant.count, c.loop-name.name-iterator.rest.ok.0, c.in-None.ensures.steps.0))
    c.loop-name.invariant.lists
