use Rattle.std.proofs.Common.{ap, ◌∙◌, arith}
use Rattle.std.proofs.lemmas.Grind.{common_steps}
use Rattle.iol_hold.specs.Places.{slice_places}
use Rattle.iol_agg.proofs.Division.{tail-cut}
use Rattle.iol_agg.proofs.aggregates.join.divide.Goals as goal

pub returns : goal.returns
returns c = record {
  given = grind (arith, common_steps);
  kept = ap slice_places c.replace-whole.ensures.after
      ∙ tail-cut c.args.slice.now c.share.result c.cut-tail.result c.args.n c.share.ensures.places
      c.cut-tail.ensures.places;
  given_hold = cc;
  kept_hold = cc;
  shares = c.share.ensures.shares;
}
