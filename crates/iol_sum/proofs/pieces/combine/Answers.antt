use Rattle.std.proofs.Common.{◌≡◌, ◌∙◌, rules}
use Rattle.iol_sum.specs.Pieces.{joined}
use Rattle.iol_sum.proofs.TwoPieces.{joined-append}
use Rattle.iol_sum.proofs.pieces.combine.Goals as goal

pub returns-clause-law : goal.returns-clause-law
returns-clause-law c xs ys e f g =
    let v : c.add.result ≡ joined c.args.sum c.args.at_odd c.args.rest = search rules in
    v ∙ joined-append c.args.sum c.args.at_odd c.args.rest xs ys e f g
