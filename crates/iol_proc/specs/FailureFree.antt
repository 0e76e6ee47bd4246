-- Runs in which no turn got a resource refusal.
use Rattle.std.specs.Prelude.{List, ◌∷◌, IsFalse, ⊤}
use Rattle.iol_core.specs.declared.events.Reply.{Reply}
use Rattle.iol_laws.specs.Caller.{is_resource_failure}
use Rattle.iol_proc.specs.Turns.{TransitionRelation, Machine}
use Rattle.iol_proc.specs.World.{WorldState, copying, sharing, WorldRun}
use Rattle.iol_proc.specs.declared.choice.Choice.{Choice}
use Rattle.iol_proc.specs.declared.choice.Choice.TheVariants as choice

-- No turn of these choices has a resource refusal as its reply. External events do not count.
abbrev pub AreFailureFree : List Choice → List Reply → Type 0
AreFailureFree (choice.Turn by ∷ xs) (r ∷ rs) = IsFalse (is_resource_failure r) × AreFailureFree xs rs
AreFailureFree (choice.Outside e ∷ xs) (r ∷ rs) = AreFailureFree xs rs
AreFailureFree xs rs = ⊤

-- A world has its failure flag set after a run if and only if it was set before, or a turn of the run got a resource
-- refusal.
pub record ResourceFailureAsItRuns {M P : Type 0} (machine : Machine M) (turns : TransitionRelation P) : Type 0 where
  -- if the flag is clear at the end, it was clear at the start, and no turn got such a refusal
  pub never_was : (w after : WorldState M P) (xs : List Choice) (rs : List Reply) → WorldRun machine turns w xs rs after
      → IsFalse after.resource_failure → IsFalse w.resource_failure × AreFailureFree xs rs
  -- if the flag is clear at the start and no turn gets such a refusal, it is clear at the end
  pub stays_failure_free : (w after : WorldState M P) (xs : List Choice) (rs : List Reply)
      → WorldRun machine turns w xs rs after
      → IsFalse w.resource_failure → AreFailureFree xs rs → IsFalse after.resource_failure

pub record FailureFreeRuns {P : Type 0} (turns : TransitionRelation P) : Type 0 where
  -- for the copying machine, and for a system over any store
  pub machine : ResourceFailureAsItRuns copying turns
  pub system : ResourceFailureAsItRuns sharing turns
