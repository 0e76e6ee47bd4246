-- An invariant of turns in rounds that leads to a property of idle processes.
--
-- S n is a property of a process that has yielded n times, up to two, since the last turn that was not refused with
-- WouldBlock: a property of the process, its last reply, and the machine's state. So S 1 may say that every call that
-- the process polled since its last yield was refused in this state, and S 2 that these are all the calls that it
-- polls.
use Rattle.std.specs.Prelude.{◌≡◌, ◌≤◌, ℕ, true, List, [], ◌∷◌, Some, slice_get, ⊤}
use Rattle.std.specs.List.{AllByRecursion}
use Rattle.iol_core.specs.State.{State}
use Rattle.iol_core.specs.Run.{StepsTo}
use Rattle.iol_core.specs.declared.events.Call.{Call}
use Rattle.iol_core.specs.declared.events.Event.TheVariants as event
use Rattle.iol_core.specs.declared.events.Reply.{Reply}
use Rattle.iol_core.specs.declared.events.Reply.TheVariants as reply
use Rattle.iol_core.specs.declared.refusals.Refusal.TheVariants.{WouldBlock}
use Rattle.iol_proc.specs.Idle.{Idles, more_of_two}
use Rattle.iol_proc.specs.ReadableBytes.{readable_to}
use Rattle.iol_proc.specs.Turns.{TransitionRelation}
use Rattle.iol_proc.specs.World.{WorldState, copying}
use Rattle.iol_proc.specs.declared.process.Turn.TheVariants as turn
use Rattle.iol_proc.specs.declared.process_slot.ProcessSlot.{ProcessSlot}

-- a property of a process in its domain that has yielded n times
abbrev pub Claim : Type 0 → Type 1
Claim P = (n by : ℕ) → P → Reply → State → Type 0

module _ {P : Type 0} (S : Claim P) where
  -- the property holds for each process, by its number of yields
  abbrev pub AreQuiescent : List ℕ → List (ProcessSlot P) → State → Type 0
  AreQuiescent [] [] m = ⊤
  AreQuiescent (n ∷ ns) (s ∷ ss) m = (n ≤ 2) × S n s.by s.process s.last m × AreQuiescent ns ss m
  AreQuiescent [] (s ∷ ss) m = ⊥
  AreQuiescent (n ∷ ns) [] m = ⊥

  -- the property holds for each process, for two yields
  abbrev pub AllQuiescent : List (ProcessSlot P) → State → Type 0
  AllQuiescent ss m = AllByRecursion (λ s. S 2 s.by s.process s.last m) ss

  -- The obligations for a process: the property holds for zero yields, a call with the reply WouldBlock keeps it, and a
  -- yield advances it.
  pub record Quiesces (turns : TransitionRelation P) : Type 0 where
    pub first : (by : ℕ) (p : P) (l : Reply) (m : State) → S 0 by p l m
    pub blocks : (n by : ℕ) (p q : P) (l : Reply) (m : State) (c : Call) → S n by p l m
        → turns.goes p l (readable_to m by) (turn.Make c) q → StepsTo m (event.Call by c) (reply.Refused WouldBlock) m
        → S n by q (reply.Refused WouldBlock) m
    pub yields : (n by : ℕ) (p q : P) (l : Reply) (m : State) → S n by p l m
        → turns.goes p l (readable_to m by) turn.Yield q
        → S (more_of_two n) by q reply.Done m

  -- The result when all are idle, as `World::until_idle` returns it: the property holds for each process, for two
  -- yields.
  pub record IdleIsQuiescent (turns : TransitionRelation P) : Type 0 where
    pub all : (w after : WorldState State P) (most : ℕ) → Idles copying turns w most true after
        → AllQuiescent after.process_slots after.machine
    pub each : (w after : WorldState State P) (most place : ℕ) (s : ProcessSlot P)
        → Idles copying turns w most true after
        → slice_get after.process_slots place ≡ Some s → S 2 s.by s.process s.last after.machine
