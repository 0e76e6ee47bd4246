use Rattle.std.proofs.Common.{◌∙◌, sym}
use Rattle.iol_reactor.proofs.Visits.{lacks_same}
use Rattle.iol_reactor.proofs.steps.is_over.Goals as goal

pub returns-in-Ok-clause-over : goal.returns-in-Ok-clause-over
returns-in-Ok-clause-over g c =
    sym (lacks_same c.args.world.now.machine c.args.conn ∙ c.in-Ok.ensures.system.refuses.passed)

pub returns-in-Err-clause-over : goal.returns-in-Err-clause-over
returns-in-Err-clause-over g c =
    sym (lacks_same c.args.world.now.machine c.args.conn ∙ c.in-Err.ensures.system.refuses.refused.1)
