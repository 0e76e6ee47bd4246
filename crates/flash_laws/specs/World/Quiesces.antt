-- A whole run: choices, followed by turns in rounds until all are idle.
use Rattle.iol_proc.specs.Quiescence.{Claim, Quiesces, IdleIsQuiescent}
use Rattle.iol_proc.specs.Turns.{TransitionRelation}
use Rattle.flash_laws.specs.World.Idle.{actor_quiescent}
use Rattle.flash_laws.specs.Serves.Rounds.{in_rounds}
use Rattle.flash_laws.specs.World.Consistency.{actor_turns}

module _ {W : Type 0} (works : TransitionRelation W) (Quiescent : Claim W) where
  -- the processes preserve their conditions
  abbrev pub ActorsQuiesce : Type 0
  ActorsQuiesce = Quiesces (actor_quiescent Quiescent) (actor_turns in_rounds works)

  -- and so these hold when all are idle
  abbrev pub ActorsAreQuiescent : Type 0
  ActorsAreQuiescent = IdleIsQuiescent (actor_quiescent Quiescent) (actor_turns in_rounds works)
