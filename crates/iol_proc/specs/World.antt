-- Processes that take turns on a machine, and external events.
--
-- The definitions are used for two machines: the copying machine, and a system over any store, with all that it
-- guarantees.
use Rattle.std.specs.Prelude.{◌≡◌, ◌≢◌, ◌⊎◌, ◌<◌, ◌≤◌, ◌||◌, ℕ, List, [], ◌∷◌, length, map, Option, Some, None, IfSome}
use Rattle.std.specs.Prelude.{Bool, All, if◌then◌else◌, slice_get, slice_set}
use Rattle.iol_core.specs.State.{State}
use Rattle.iol_core.specs.Run.{StepsTo}
use Rattle.iol_core.specs.declared.events.Event.{Event}
use Rattle.iol_core.specs.declared.events.Reply.{Reply}
use Rattle.iol_core.specs.declared.events.Reply.TheVariants as reply
use Rattle.iol_core.specs.declared.refusals.Refusal.TheVariants.{NoDomain}
use Rattle.iol_laws.specs.Caller.{is_resource_failure}
use Rattle.iol_system.specs.Machine.{SystemState, machine_of}
use Rattle.iol_system.specs.Promises.{Promises}
use Rattle.iol_proc.specs.ReadableBytes.{readable_to}
use Rattle.iol_proc.specs.Turns.{Machine, TransitionRelation, ProcessSlotTurn, is_would_block}
use Rattle.iol_proc.specs.declared.activity.Activity.{Activity}
use Rattle.iol_proc.specs.declared.activity.Activity.TheVariants.{Yields, Waits, Acts}
use Rattle.iol_proc.specs.declared.choice.Choice.{Choice}
use Rattle.iol_proc.specs.declared.choice.Choice.TheVariants as choice
use Rattle.iol_proc.specs.declared.process_slot.ProcessSlot.{ProcessSlot}

-- the machine that copies at every call
abbrev pub copying : Machine State
copying = record { Step = StepsTo; readable_bytes = readable_to }

-- a system, with all guarantees of each of its steps
abbrev pub sharing : Machine SystemState
sharing = record { Step = Promises; readable_bytes = λ s by. readable_to (machine_of s) by }

-- a machine, its processes, each with its last reply, and whether a turn got a resource refusal
pub record WorldState (M P : Type 0) : Type 0 where
  pub machine : M
  pub process_slots : List (ProcessSlot P)
  pub resource_failure : Bool

-- the state of a world: a system with its processes
abbrev pub world_state : {P : Type 0} → SystemState → List (ProcessSlot P) → (resource_failure : Bool)
    → WorldState SystemState P
world_state system process_slots resource_failure =
    record { machine = system; process_slots = process_slots; resource_failure = resource_failure }

-- the same processes over the copying machine
abbrev pub copied : {P : Type 0} → WorldState SystemState P → WorldState State P
copied w = record {
  machine = machine_of w.machine;
  process_slots = w.process_slots;
  resource_failure =
      w.resource_failure;
}

-- the domains of the processes, in their order
abbrev pub domains_of : {P : Type 0} → List (ProcessSlot P) → List ℕ
domains_of process_slots = map (λ s. s.by) process_slots

-- a process in its domain, before its first turn
abbrev pub process_slot_of : {P : Type 0} → ℕ × P → ProcessSlot P
process_slot_of p = record { by = p.0; process = p.1; last = reply.Done }

-- no process is in this domain
abbrev pub HasNoProcessSlot : {P : Type 0} → List (ProcessSlot P) → (by : ℕ) → Type 0
HasNoProcessSlot process_slots by = All (λ s. s.by ≢ by) process_slots

-- the process at this index is in this domain
abbrev pub SitsAt : {P : Type 0} → List (ProcessSlot P) → (by place : ℕ) → Type 0
SitsAt process_slots by place = IfSome (slice_get process_slots place) (λ process_slot. process_slot.by ≡ by)
    × (place < length process_slots)

-- the activity of a process in a turn: whether it yielded, and the reply
abbrev pub activity_of : (yields : Bool) → Reply → Activity
activity_of yields r = if yields then Yields else (if is_would_block r then Waits else Acts)

-- the process of a domain
pub record IsInSlots {P : Type 0} (process_slots : List (ProcessSlot P)) (by : ℕ) (p : P) : Type 0 where
  pub place : ℕ
  pub process_slot : ProcessSlot P
  pub sits : slice_get process_slots place ≡ Some process_slot
  pub domain : process_slot.by ≡ by
  pub process : process_slot.process ≡ p

module _ {M P : Type 0} (machine : Machine M) (turns : TransitionRelation P) where
  -- a turn of the process at this index: whether it yielded, and the reply
  pub record PlaceTurn (w : WorldState M P) (place : ℕ) (yields : Bool) (r : Reply) (after : WorldState M P) :
      Type 0 where
    pub process_slot : ProcessSlot P
    pub next : ProcessSlot P
    pub sits : slice_get w.process_slots place ≡ Some process_slot
    pub turn : ProcessSlotTurn machine turns w.machine process_slot yields r after.machine next
    pub others_stay : after.process_slots ≡ slice_set w.process_slots place next
    pub notes : after.resource_failure ≡ (w.resource_failure || is_resource_failure r)

  -- A turn of the process at this index, which did this. None: there is no process, and nothing changes.
  abbrev pub TurnAt : WorldState M P → (place : ℕ) → Option Activity → WorldState M P → Type 0
  TurnAt w place None after = (length w.process_slots ≤ place) × (after ≡ w)
  TurnAt w place (Some a) after =
      (yields : Bool) × (r : Reply) × PlaceTurn w place yields r after × (a ≡ activity_of yields r)

  -- there is no process in this domain
  pub record Absent (w : WorldState M P) (by : ℕ) (r : Reply) (after : WorldState M P) : Type 0 where
    pub nobody : HasNoProcessSlot w.process_slots by
    pub answer : r ≡ reply.Refused NoDomain
    pub stays : after ≡ w

  -- a turn of the process in this domain
  pub record Present (w : WorldState M P) (by : ℕ) (r : Reply) (after : WorldState M P) : Type 0 where
    pub place : ℕ
    pub yields : Bool
    pub turn : PlaceTurn w place yields r after
    pub domain : turn.process_slot.by ≡ by

  -- a turn of a domain
  abbrev pub DomainTurn : WorldState M P → (by : ℕ) → Reply → WorldState M P → Type 0
  DomainTurn w by r after = Absent w by r after ⊎ Present w by r after

  -- an external event
  pub record OutsideStep (w : WorldState M P) (e : Event) (r : Reply) (after : WorldState M P) : Type 0 where
    pub step : machine.Step w.machine e r after.machine
    pub process_slots_stay : after.process_slots ≡ w.process_slots
    pub resource_failure_stays : after.resource_failure ≡ w.resource_failure

  -- one choice
  abbrev pub WorldStep : WorldState M P → Choice → Reply → WorldState M P → Type 0
  WorldStep w (choice.Turn by) r after = DomainTurn w by r after
  WorldStep w (choice.Outside e) r after = OutsideStep w e r after

  -- From w, these choices get these replies, in order, and lead to after.
  abbrev pub WorldRun : WorldState M P → List Choice → List Reply → WorldState M P → Type 0
  WorldRun w [] [] after = after ≡ w
  WorldRun w (c ∷ cs) (r ∷ rs) after = (mid : WorldState M P) × WorldStep w c r mid × WorldRun mid cs rs after
  WorldRun w [] (r ∷ rs) after = ⊥
  WorldRun w (c ∷ cs) [] after = ⊥

module _ {P : Type 0} (turns : TransitionRelation P) where
  -- An external event, a turn, and a list of choices, in the copying machine.
  abbrev pub CopiedStep : WorldState SystemState P → Event → Reply → WorldState SystemState P → Type 0
  CopiedStep w e r after = OutsideStep copying turns (copied w) e r (copied after)

  abbrev pub CopiedRun : WorldState SystemState P → List Choice → List Reply → WorldState SystemState P → Type 0
  CopiedRun w cs rs after = WorldRun copying turns (copied w) cs rs (copied after)

  abbrev pub CopiedTurnAt : WorldState SystemState P → (place : ℕ) → Option Activity → WorldState SystemState P → Type 0
  CopiedTurnAt w place a after = TurnAt copying turns (copied w) place a (copied after)
