use Rattle.iol_system.proofs.Safe.{promises_kept}
use Rattle.iol_system.proofs.system.System.make_agg.Goals as goal

pub returns : goal.returns
returns g c =
    rw (← c.self.view_is)
    (promises_kept _ _ _ _ c.self.invariant (c.make_agg.ensures (g.B.Backing.disk c.self.inside.backing)))

pub invariant_of-self : goal.invariant_of-self
invariant_of-self g c = (returns g c).safe
