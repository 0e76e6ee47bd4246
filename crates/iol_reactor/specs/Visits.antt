-- The connections of a world that serves clients, from their creation on.
use Rattle.std.specs.Prelude.{◌≡◌, ◌≢◌, ◌||◌, ℕ, Bool, false, List, [], ◌++◌, Option, Some, None}
use Rattle.std.specs.List.{list_any}
use Rattle.std.specs.Io.KnownBytes.{Appends}
use Rattle.iol_back.specs.Disk.{IfHonest}
use Rattle.iol_core.specs.State.{State}
use Rattle.iol_core.specs.declared.events.Event.TheVariants as event
use Rattle.iol_core.specs.declared.events.Reply.{Reply}
use Rattle.iol_core.specs.declared.events.Reply.TheVariants as reply
use Rattle.iol_system.specs.Machine.{SystemState}
use Rattle.iol_proc.specs.Histories.{stream_over, sent_over, drops_with}
use Rattle.iol_proc.specs.Laws.{KeepsHonesty}
use Rattle.iol_proc.specs.Turns.{TransitionRelation}
use Rattle.iol_proc.specs.World.{WorldState, copied, copying, OutsideStep}
use Rattle.iol_serve.specs.Service.{Proceeds}
use Rattle.iol_reactor.specs.Serving.{Continues}

module _ {P : Type 0} (turns : TransitionRelation P) where
  -- From w, the choices are process turns and events of connections. On this connection these bytes are received and
  -- these are sent; gone is whether its peer is reported as gone.
  pub record Carries (pool c : ℕ) (came sent : List ℕ) (gone : Bool) (w after : WorldState State P) : Type 0 where
    pub continues : Continues turns pool w after
    pub comes : stream_over c continues.choices continues.replies ≡ came
    pub goes : sent_over c continues.choices continues.replies ≡ sent
    pub reports : list_any (λ x. drops_with x c) continues.choices ≡ gone

  -- Since the world began, this connection was created, and these bytes were received and sent on it.
  pub record Visits (pool c : ℕ) (came sent : List ℕ) (gone : Bool) (begun after : WorldState State P) : Type 0 where
    pub before : WorldState State P
    pub past : Continues turns pool begun before
    pub first : WorldState State P
    pub made : OutsideStep copying turns before (event.ConnNew pool) (reply.Conn c) first
    pub since : Carries pool c came sent gone first after

  -- The same for the connection of a client, in a world that began as one of those that may serve, if its store is
  -- honest.
  pub record HasVisited (starts : WorldState SystemState P → Type 0) (pool c : ℕ) (came sent : List ℕ) (gone : Bool)
      (w : WorldState SystemState P) : Type 0 where
    pub begun : WorldState SystemState P
    pub started : starts begun
    pub honest : KeepsHonesty begun.machine w.machine
    pub visits : IfHonest begun.machine.disk (Visits pool c came sent gone (copied begun) (copied w))

  -- A connection is created, or there is none, if the store is honest.
  abbrev pub ConnectsIn : (pool : ℕ) → Option ℕ → (w after : WorldState SystemState P) → Type 0
  ConnectsIn pool (Some c) w after = IfHonest w.machine.disk
      (OutsideStep copying turns (copied w) (event.ConnNew pool) (reply.Conn c) (copied after))
  ConnectsIn pool None w after = IfHonest w.machine.disk
      ((r : Reply) × OutsideStep copying turns (copied w) (event.ConnNew pool) r (copied after))

  -- The history of d is continued by these bytes, and those of all other connections are unchanged.
  pub record VisitsAdvance (starts : WorldState SystemState P → Type 0) (pool d : ℕ) (more next : List ℕ) (last : Bool)
      (w after : WorldState SystemState P) : Type 0 where
    pub own : (came sent : List ℕ) (gone : Bool) → HasVisited starts pool d came sent gone w
        → HasVisited starts pool d (came ++ more) (sent ++ next) (gone || last) after
    pub others : (c : ℕ) (came sent : List ℕ) (gone : Bool) → d ≢ c → HasVisited starts pool c came sent gone w
        → HasVisited starts pool c came sent gone after

  -- The same, if the first bytes arrive on d, and the rest remains.
  abbrev pub VisitsArrive : (starts : WorldState SystemState P → Type 0) (pool d : ℕ) (bytes rest : List ℕ)
      (w after : WorldState SystemState P) → Type 0
  VisitsArrive starts pool d bytes rest w after = (came : List ℕ) × (bytes ≡ came ++ rest)
      × VisitsAdvance starts pool d came [] false w after

  -- The same, if a writer with known bytes took bytes that d sent.
  abbrev pub VisitsSend : (starts : WorldState SystemState P → Type 0) (pool d : ℕ) (held now : Option (List ℕ))
      (w after : WorldState SystemState P) → Type 0
  VisitsSend starts pool d held now w after = (sent : List ℕ) × Appends held now sent
      × VisitsAdvance starts pool d [] sent false w after

  -- The history of each connection is unchanged.
  abbrev pub VisitsStay : (starts : WorldState SystemState P → Type 0) (pool : ℕ) (w after : WorldState SystemState P)
      → Type 0
  VisitsStay starts pool w after = (c : ℕ) (came sent : List ℕ) (gone : Bool)
      → HasVisited starts pool c came sent gone w
      → HasVisited starts pool c came sent gone after

  -- Each step of a world continues the history of each connection.
  pub record VisitsContinue : Type 0 where
    -- a new connection
    pub new : (pool c : ℕ) (begun w after : WorldState State P) → Continues turns pool begun w
        → OutsideStep copying turns w (event.ConnNew pool) (reply.Conn c) after → Visits pool c [] [] false begun after
    -- turns, and events of this connection
    pub own : (pool c : ℕ) (came sent more next : List ℕ) (gone last : Bool) (begun w after : WorldState State P)
        → Visits pool c came sent gone begun w → Proceeds turns c more next last w after
        → Visits pool c (came ++ more) (sent ++ next) (gone || last) begun after
    -- events of another connection
    pub other : (pool c d : ℕ) (came sent more next : List ℕ) (gone last : Bool) (begun w after : WorldState State P)
        → d ≢ c
        → Visits pool c came sent gone begun w → Proceeds turns d more next last w after
        → Visits pool c came sent gone begun after
    -- another connection is created, or refused
    pub made : (pool c : ℕ) (came sent : List ℕ) (gone : Bool) (r : Reply) (begun w after : WorldState State P)
        → Visits pool c came sent gone begun w → OutsideStep copying turns w (event.ConnNew pool) r after
        → Visits pool c came sent gone begun after
