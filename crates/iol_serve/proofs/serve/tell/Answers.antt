use Rattle.std.proofs.Common.{◌∙◌, sym}
use Rattle.iol_serve.proofs.Steps.{goes_as}
use Rattle.iol_serve.proofs.serve.tell.Goals as goal

pub returns-then-hang_up-clause-proceeds : goal.returns-then-hang_up-clause-proceeds
returns-then-hang_up-clause-proceeds g c =
    λ honest. goes_as g.P.Process.turns c.args.conn _ _ _ _ (c.if-hang_up.true ∙ sym c.requires)
    (c.hang_up.ensures.proceeds honest)

pub returns-else-hang_up-clause-proceeds : goal.returns-else-hang_up-clause-proceeds
returns-else-hang_up-clause-proceeds g c =
    λ honest. goes_as g.P.Process.turns c.args.conn _ _ _ _ c.if-hang_up.false (c.hang_up.ensures.proceeds honest)
