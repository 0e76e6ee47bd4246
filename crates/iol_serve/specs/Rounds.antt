-- The result of a round.
use Rattle.std.specs.Prelude.{ℕ, Bool, true, false, List, Option}
use Rattle.iol_system.specs.Machine.{SystemState}
use Rattle.iol_proc.specs.Turns.{TransitionRelation}
use Rattle.iol_proc.specs.World.{WorldState}
use Rattle.iol_serve.specs.Service.{ServesIn}
use Rattle.iol_serve.specs.declared.ending.Ending.{Ending}
use Rattle.iol_serve.specs.declared.ending.Ending.TheVariants as ending
use Rattle.iol_serve.specs.declared.serve.Step.{Step}
use Rattle.iol_serve.specs.declared.serve.Step.TheVariants.{Moved, Idle, Failed, Silent, Stalled, Over}

-- whether the step is reported as a peer that is gone
abbrev pub is_gone : Step → Bool
is_gone Moved = false
is_gone Idle = false
is_gone Failed = true
is_gone Silent = true
is_gone Stalled = true
is_gone Over = false

-- whether the round is the last: the connection is over, or its peer is gone and was gone before
abbrev pub is_last : (was_gone : Bool) → Step → Bool
is_last was_gone Moved = false
is_last was_gone Idle = false
is_last was_gone Failed = was_gone
is_last was_gone Silent = was_gone
is_last was_gone Stalled = was_gone
is_last was_gone Over = true

-- the ending if this round is the last: the one before the round, unless that was Over
abbrev pub after : Ending → Step → Ending
after ending.Over Failed = ending.Failed
after ending.Over Silent = ending.Silent
after ending.Over Stalled = ending.Long
after ending.Over step = ending.Over
after before step = before

-- One round, with this step as its result, serves the connection of the world.
abbrev pub ServesBy : {P R W : Type 0} → TransitionRelation P → (c : ℕ) → Step
    → (left : R → Option (List ℕ)) (reader rest : R)
    (held : W → Option (List ℕ)) (writer written : W) (w after : WorldState SystemState P) → Type 0
ServesBy turns c step left reader rest held writer written w after =
    ServesIn turns c (is_gone step) left reader rest held writer written w after
