use Rattle.iol_serve.proofs.Steps.{goes_closed}
use Rattle.iol_core.specs.declared.descriptors.How.TheVariants.{Done}
use Rattle.iol_reactor.proofs.Serving.{ends_reported}
use Rattle.iol_reactor.proofs.steps.close.Goals as goal

pub returns-clause-alone : goal.returns-clause-alone
returns-clause-alone g c =
    λ honest. goes_closed g.P.Process.turns c.args.conn _ _ _ (c.step_outside.ensures.copied honest)

pub returns-clause-reported : goal.returns-clause-reported
returns-clause-reported g c =
    λ honest. ends_reported g.P.Process.turns c.args.conn Done _ _ _ (c.step_outside.ensures.copied honest)
