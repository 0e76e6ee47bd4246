use Rattle.std.proofs.Common.{[], Some, refl}
use Rattle.iol_proc.proofs.Chains.{turn_at_chained}
use Rattle.iol_proc.proofs.MachineRuns.{turn_at_copied}
use Rattle.iol_proc.proofs.world.World.turn_at.Goals as goal

-- nothing happened
pub returns-then-place-len-clause-events : goal.returns-then-place-len-clause-events
returns-then-place-len-clause-events g c = record { events = []; replies = []; chain = refl }

-- a turn
pub returns-clause-run : goal.returns-clause-run
returns-clause-run g c =
    rw (← c.self.view_is)
    (λ honest. turn_at_copied g.P.Process.turns _ c.args.place (Some c.activity.result) _ honest (
      c.place_turn-outcome.result.yields,
      c.place_turn-outcome.result.reply,
      c.place_turn-outcome.ensures.turn,
      c.activity.ensures,
    ))

pub returns-clause-events : goal.returns-clause-events
returns-clause-events g c =
    rw (← c.self.view_is) (turn_at_chained g.P.Process.turns _ c.args.place (Some c.activity.result) _ (
      c.place_turn-outcome.result.yields,
      c.place_turn-outcome.result.reply,
      c.place_turn-outcome.ensures.turn,
      c.activity.ensures,
    ))
