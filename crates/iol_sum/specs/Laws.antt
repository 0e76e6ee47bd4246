-- Remembered sums stay right while the store changes.
use Rattle.iol_arena.specs.State.{State}
use Rattle.iol_arena.specs.Buffers.{Keeps, Grows}
use Rattle.iol_hold.specs.StoreState.{Stored}
use Rattle.iol_hold.specs.Moves.{Stays}
use Rattle.iol_sum.specs.Sums.{Sums, IsRight}

-- over every change that keeps the live buffers and uses no identity twice
abbrev pub StayRight : Type 0
StayRight = (old new : State) (c : Sums) → Keeps old new → IsRight old c → IsRight new c

-- over calls that take and release references
abbrev pub StayRightAsHoldsMove : Type 0
StayRightAsHoldsMove = (old new : Stored) (c : Sums) → Stays old new → IsRight old.arena c → IsRight new.arena c

-- over calls that make buffers
abbrev pub StayRightAsBuffersAreMade : Type 0
StayRightAsBuffersAreMade = (old new : State) (c : Sums) → Grows old new → IsRight old c → IsRight new c
