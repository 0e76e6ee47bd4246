use Rattle.iol_serve.proofs.Steps.{goes_turns}
use Rattle.iol_serve.proofs.serve.quiesce.Goals as goal

pub returns-clause-proceeds : goal.returns-clause-proceeds
returns-clause-proceeds g c =
    λ honest. goes_turns g.P.Process.turns c.args.conn 0 _ _ _ _ _ (c.until_idle.ensures.run honest).run
