use Rattle.iol_serve.proofs.Steps.{goes_closed}
use Rattle.iol_serve.proofs.serve.close.Goals as goal

pub returns-clause-proceeds : goal.returns-clause-proceeds
returns-clause-proceeds g c =
    λ honest. goes_closed g.P.Process.turns c.args.conn _ _ _ (c.step_outside.ensures.copied honest)
