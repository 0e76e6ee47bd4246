use Rattle.iol_proc.proofs.Chains.{run_chained, honesty_kept}
use Rattle.iol_proc.proofs.MachineRuns.{idles_copied}
use Rattle.iol_proc.proofs.world.World.until_idle.Goals as goal

pub returns-clause-run : goal.returns-clause-run
returns-clause-run g c =
    rw (← c.self.view_is) (λ honest. idles_copied g.P.Process.turns _ _ _ _ honest c.until_idle.ensures.idles)

pub returns-clause-events : goal.returns-clause-events
returns-clause-events g c = rw (← c.self.view_is) (run_chained g.P.Process.turns _ _ _ _ c.until_idle.ensures.idles.run)

pub returns-clause-honest : goal.returns-clause-honest
returns-clause-honest g c =
    rw (← c.self.view_is) (honesty_kept _ _ (run_chained g.P.Process.turns _ _ _ _ c.until_idle.ensures.idles.run))
