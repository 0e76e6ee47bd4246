-- The events of a world that serves clients.
use Rattle.std.specs.Prelude.{◌≡◌, ℕ, List, [], ◌++◌, false, ⊤}
use Rattle.std.specs.List.{AllByRecursion}
use Rattle.iol_back.specs.Disk.{IfHonest}
use Rattle.iol_core.specs.State.{State}
use Rattle.iol_core.specs.declared.descriptors.How.{How}
use Rattle.iol_core.specs.declared.events.Event.TheVariants as event
use Rattle.iol_core.specs.declared.events.Reply.{Reply}
use Rattle.iol_system.specs.Machine.{SystemState}
use Rattle.iol_proc.specs.Laws.{KeepsHonesty}
use Rattle.iol_proc.specs.Turns.{TransitionRelation}
use Rattle.iol_proc.specs.World.{WorldState, copied, copying, OutsideStep, WorldRun}
use Rattle.iol_serve.specs.Service.{Proceeds}
use Rattle.iol_proc.specs.declared.choice.Choice.{Choice}
use Rattle.iol_proc.specs.declared.choice.Choice.TheVariants as choice

-- A turn of a process, or an event of a connection: a connection of this pool is created, bytes arrive, the peer closes
-- it, or bytes are sent. It is never an external call.
abbrev pub IsServing : (pool : ℕ) → Choice → Type 0
IsServing pool (choice.Turn by) = ⊤
IsServing pool (choice.Outside (event.ConnNew p)) = p ≡ pool
IsServing pool (choice.Outside (event.Arrive c bytes)) = ⊤
IsServing pool (choice.Outside (event.PeerClosed c how)) = ⊤
IsServing pool (choice.Outside (event.Transmit c max)) = ⊤
IsServing pool (choice.Outside e) = ⊥

abbrev pub AreServing : (pool : ℕ) → List Choice → Type 0
AreServing pool choices = AllByRecursion (IsServing pool) choices

module _ {P : Type 0} (turns : TransitionRelation P) where
  -- From w, the choices are process turns and events of connections.
  pub record Continues (pool : ℕ) (w after : WorldState State P) : Type 0 where
    pub choices : List Choice
    pub replies : List Reply
    pub run : WorldRun copying turns w choices replies after
    pub serving : AreServing pool choices

  -- This world began as one of those that may serve. Since then, if the store is honest, the choices were process turns
  -- and events of connections, in terms of the copying machine.
  pub record HasServed (starts : WorldState SystemState P → Type 0) (pool : ℕ) (w : WorldState SystemState P) :
      Type 0 where
    pub begun : WorldState SystemState P
    pub started : starts begun
    pub honest : KeepsHonesty begun.machine w.machine
    pub continues : IfHonest begun.machine.disk (Continues pool (copied begun) (copied w))

  -- The first of these bytes arrive on a connection, in order, and the rest remains. Nothing is sent.
  pub record Arrives (c : ℕ) (bytes rest : List ℕ) (w after : WorldState State P) : Type 0 where
    pub came : List ℕ
    pub split : bytes ≡ came ++ rest
    pub proceeds : Proceeds turns c came [] false w after

  -- An event reports that the peer of a connection has ended so.
  pub record Ends (c : ℕ) (how : How) (w after : WorldState State P) : Type 0 where
    pub reply : Reply
    pub step : OutsideStep copying turns w (event.PeerClosed c how) reply after

-- Both, if the store is honest, in terms of the copying machine.
module _ {P : Type 0} (turns : TransitionRelation P) where
  abbrev pub ArrivesIn : (c : ℕ) (bytes rest : List ℕ) (w after : WorldState SystemState P) → Type 0
  ArrivesIn c bytes rest w after = IfHonest w.machine.disk (Arrives turns c bytes rest (copied w) (copied after))

  abbrev pub EndsIn : (c : ℕ) (how : How) (w after : WorldState SystemState P) → Type 0
  EndsIn c how w after = IfHonest w.machine.disk (Ends turns c how (copied w) (copied after))
