use Rattle.iol_reactor.proofs.Accepting.{within_same, within_then}
use Rattle.iol_reactor.proofs.reactor.Reactor.serve.Goals as goal

pub loop-init : goal.loop-init
loop-init g c = within_same _ _

pub loop-preserved : goal.loop-preserved
loop-preserved g c = within_then _ _ _ _ _ _ c.loop.invariant c.step.ensures
