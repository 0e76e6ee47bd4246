-- Serving a connection of a world.
use Rattle.std.specs.Prelude.{◌≡◌, ◌⊎◌, ℕ, Bool, true, false, List, [], Option, IsTrue, ⊤}
use Rattle.std.specs.List.{list_any, AllByRecursion}
use Rattle.std.specs.Io.KnownBytes.{Appends, Consumes}
use Rattle.iol_back.specs.Disk.{IfHonest}
use Rattle.iol_core.specs.State.{State, conn_at, is_gone}
use Rattle.iol_core.specs.Calls.Outside.{lacks_conn}
use Rattle.iol_core.specs.declared.events.Event.TheVariants as event
use Rattle.iol_core.specs.declared.events.Reply.{Reply}
use Rattle.iol_system.specs.Machine.{SystemState}
use Rattle.iol_proc.specs.Histories.{stream_over, sent_over, drops_with}
use Rattle.iol_proc.specs.Turns.{TransitionRelation}
use Rattle.iol_proc.specs.World.{WorldState, copied, copying, WorldRun}
use Rattle.iol_proc.specs.declared.choice.Choice.{Choice}
use Rattle.iol_proc.specs.declared.choice.Choice.TheVariants as choice
use Rattle.iol_serve.specs.declared.ending.Ending.{Ending}
use Rattle.iol_serve.specs.declared.ending.Ending.TheVariants.{Over, Failed, Silent, Long}

-- a connection has ended: it was removed, or its peer is gone
abbrev pub HasEnded : State → (c : ℕ) → Type 0
HasEnded s c = IsTrue (lacks_conn s c) ⊎ IsTrue (is_gone (conn_at s c).peer)

-- whether the peer was reported as gone
abbrev pub hung_up : Ending → Bool
hung_up Over = false
hung_up Failed = true
hung_up Silent = true
hung_up Long = true

-- A process turn, or an event of this connection: bytes arrive, the peer closes it, or bytes are sent.
abbrev pub IsOn : (c : ℕ) → Choice → Type 0
IsOn c (choice.Turn by) = ⊤
IsOn c (choice.Outside (event.Arrive d bytes)) = d ≡ c
IsOn c (choice.Outside (event.PeerClosed d how)) = d ≡ c
IsOn c (choice.Outside (event.Transmit d max)) = d ≡ c
IsOn c (choice.Outside e) = ⊥

abbrev pub AreOn : (c : ℕ) → List Choice → Type 0
AreOn c choices = AllByRecursion (IsOn c) choices

module _ {P : Type 0} (turns : TransitionRelation P) where
  -- From w, the choices are only process turns and events of this connection. These bytes are received and these are
  -- sent; gone is whether the peer is reported as gone.
  pub record Proceeds (c : ℕ) (came sent : List ℕ) (gone : Bool) (w after : WorldState State P) : Type 0 where
    pub choices : List Choice
    pub replies : List Reply
    pub run : WorldRun copying turns w choices replies after
    pub alone : AreOn c choices
    pub comes : stream_over c choices replies ≡ came
    pub goes : sent_over c choices replies ≡ sent
    pub reports : list_any (λ x. drops_with x c) choices ≡ gone

  -- The bytes sent are those that a writer took, in order, if its bytes are known.
  pub record Sends (c : ℕ) (held now : Option (List ℕ)) (w after : WorldState State P) : Type 0 where
    pub sent : List ℕ
    pub taken : Appends held now sent
    pub proceeds : Proceeds c [] sent false w after

  -- The bytes received are those that a reader gave, and the bytes sent those that a writer took, in order and if
  -- known.
  pub record Serves (c : ℕ) (gone : Bool) (left rest held now : Option (List ℕ)) (w after : WorldState State P) :
      Type 0 where
    pub came : List ℕ
    pub sent : List ℕ
    pub given : Consumes left rest came
    pub taken : Appends held now sent
    pub proceeds : Proceeds c came sent gone w after

-- Advancing, sending and serving a connection of a world, in terms of the copying machine. All except `SendsIn` require
-- an honest store. The parameters give the remaining bytes of a reader and the contents of a writer, if known.
module _ {P : Type 0} (turns : TransitionRelation P) where
  abbrev pub ProceedsIn : (c : ℕ) (came sent : List ℕ) (gone : Bool) (w after : WorldState SystemState P) → Type 0
  ProceedsIn c came sent gone w after =
      IfHonest w.machine.disk (Proceeds turns c came sent gone (copied w) (copied after))

  abbrev pub SendsIn : {W : Type 0}
      → (c : ℕ) (held : W → Option (List ℕ)) (writer written : W) (w after : WorldState SystemState P)
      → Type 0
  SendsIn c held writer written w after = Sends turns c (held writer) (held written) (copied w) (copied after)

  abbrev pub ServesIn : {R W : Type 0} → (c : ℕ) (gone : Bool) (left : R → Option (List ℕ)) (reader rest : R)
      (held : W → Option (List ℕ)) (writer written : W) (w after : WorldState SystemState P) → Type 0
  ServesIn c gone left reader rest held writer written w after = IfHonest w.machine.disk
      (Serves turns c gone (left reader) (left rest) (held writer) (held written) (copied w) (copied after))

  -- a connection was served, with this ending
  abbrev pub ServesUntil : {R W : Type 0} → (c : ℕ) → Ending → (left : R → Option (List ℕ)) (reader rest : R)
      (held : W → Option (List ℕ)) (writer written : W) (w after : WorldState SystemState P) → Type 0
  ServesUntil c ending left reader rest held writer written w after =
      ServesIn c (hung_up ending) left reader rest held writer written w after
