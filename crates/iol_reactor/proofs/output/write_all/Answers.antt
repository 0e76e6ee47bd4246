use Rattle.iol_reactor.proofs.Bytes.{keeps_same, keeps_then, passes_none, passes_then}
use Rattle.iol_reactor.proofs.output.write_all.Goals as goal

pub loop-init : goal.loop-init
loop-init g c = (passes_none _ _, keeps_same _)

pub loop-preserved : goal.loop-preserved
loop-preserved g c = (
  passes_then _ _ _ _ _ _ c.loop.invariant.0 c.write_once-sending.ensures.passes,
  keeps_then _ _ _ c.loop.invariant.1 c.write_once-sending.ensures.came,
)

pub returns-then-is_empty-clause-passes : goal.returns-then-is_empty-clause-passes
returns-then-is_empty-clause-passes g c = c.loop.invariant.0

pub returns-then-is_empty-clause-came : goal.returns-then-is_empty-clause-came
returns-then-is_empty-clause-came g c = c.loop.invariant.1

pub returns-then-ne-clause-passes : goal.returns-then-ne-clause-passes
returns-then-ne-clause-passes g c = passes_then _ _ _ _ _ _ c.loop.invariant.0 c.write_once-sending.ensures.passes

pub returns-then-ne-clause-came : goal.returns-then-ne-clause-came
returns-then-ne-clause-came g c = keeps_then _ _ _ c.loop.invariant.1 c.write_once-sending.ensures.came

pub returns-clause-passes : goal.returns-clause-passes
returns-clause-passes g c = c.loop.invariant.0

pub returns-clause-came : goal.returns-clause-came
returns-clause-came g c = c.loop.invariant.1
