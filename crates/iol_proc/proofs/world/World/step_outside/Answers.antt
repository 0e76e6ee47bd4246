use Rattle.iol_proc.proofs.Chains.{outside_chained, honesty_kept}
use Rattle.iol_proc.proofs.MachineRuns.{outside_copied}
use Rattle.iol_proc.proofs.world.World.step_outside.Goals as goal

pub returns-clause-copied : goal.returns-clause-copied
returns-clause-copied g c =
    λ honest. (outside_copied g.P.Process.turns c.args.self.now c.args.event c.outside.result c.outside.new.self honest
    c.outside.ensures).0

pub returns-clause-events : goal.returns-clause-events
returns-clause-events g c =
    outside_chained g.P.Process.turns c.args.self.now c.args.event c.outside.result c.outside.new.self c.outside.ensures

pub returns-clause-honest : goal.returns-clause-honest
returns-clause-honest g c =
    honesty_kept _ _ (outside_chained g.P.Process.turns c.args.self.now c.args.event c.outside.result c.outside.new.self
    c.outside.ensures)
