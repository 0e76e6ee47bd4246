use Rattle.std.proofs.Common.{[], arith, refl}
use Rattle.std.proofs.lemmas.List.{take_all}
use Rattle.iol_proc.specs.World.{sharing}
use Rattle.iol_proc.proofs.Chains.{honesty_kept, run_chained}
use Rattle.iol_proc.proofs.MachineRuns.{run_copied}
use Rattle.iol_proc.proofs.Runs.{run_at}
use Rattle.iol_proc.proofs.world.World.run.Goals as goal

-- one more choice
pub loop-choice-preserved : goal.loop-choice-preserved
loop-choice-preserved g c = record {
  ran =
      rw c.push_reserved.ensures.items (run_at sharing g.P.Process.turns _ _ _ _ _ _ _ _ (omega arith) c.choice-item.is
      c.loop-choice.invariant.ran c.step-reply.ensures);
  count = omega (arith, c.push_reserved.ensures.len);
  room = omega (arith, c.push_reserved.ensures.capacity);
}

-- all choices
pub returns-clause-run : goal.returns-clause-run
returns-clause-run g c =
    λ honest. run_copied g.P.Process.turns _ _ _ _ honest
    (rw (take_all c.loop-choice.choice-index c.args.choices.now (omega arith)) at c.loop-choice.invariant.ran)

pub returns-clause-events : goal.returns-clause-events
returns-clause-events g c = run_chained g.P.Process.turns _ _ _ _ c.loop-choice.invariant.ran

pub returns-clause-honest : goal.returns-clause-honest
returns-clause-honest g c = honesty_kept _ _ (run_chained g.P.Process.turns _ _ _ _ c.loop-choice.invariant.ran)

-- nothing happened
pub returns-in_err-replies-clause-events : goal.returns-in_err-replies-clause-events
returns-in_err-replies-clause-events g c = record { events = []; replies = []; chain = refl }
