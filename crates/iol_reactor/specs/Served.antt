-- The history of a client: its connections, one after another, and the bytes that its socket supplied and accepted.
use Rattle.std.specs.Prelude.{◌≡◌, ◌≢◌, ◌≤◌, ◌⊎◌, ℕ, Bool, true, false, List, [], drop, get_or, length, Option, None}
use Rattle.std.specs.Prelude.{◌-◌, slice_get, Some, IsSome, ⊤, IsTrue, IsFalse}
use Rattle.iol_system.specs.Machine.{SystemState}
use Rattle.iol_proc.specs.Turns.{TransitionRelation}
use Rattle.iol_proc.specs.World.{WorldState}
use Rattle.iol_reactor.specs.Bytes.{IsFinished, unsent_of, waiting_of}
use Rattle.iol_reactor.specs.Clients.{Holds, IsAsking, IsClosed, IsOpen, Visit, WereLeft}
use Rattle.iol_reactor.specs.Connections.{link_at}
use Rattle.iol_reactor.specs.Visits.{HasVisited}
use Rattle.iol_reactor.specs.LinkVisits.{Serving}
use Rattle.iol_reactor.specs.declared.client.Client.{Client}
use Rattle.iol_reactor.specs.declared.client.Phase.{Phase}
use Rattle.iol_reactor.specs.declared.client.Phase.TheVariants as phase
use Rattle.iol_reactor.specs.declared.input.Input.{Input}
use Rattle.iol_reactor.specs.declared.links.Link.{Link}
use Rattle.iol_reactor.specs.declared.service.Frame.{Frame}
use Rattle.iol_reactor.specs.declared.service.Frame.TheVariants as frame

-- The bytes that each socket of this type supplied and accepted are known.
pub record AreKnown {S : Type 0} (supplied accepted : S → Option (List ℕ)) : Type 0 where
  pub supplies : (socket : S) → IsSome (supplied socket)
  pub accepts : (socket : S) → IsSome (accepted socket)

-- no bytes, if they are known
abbrev pub IsEmpty : Option (List ℕ) → Type 0
IsEmpty None = ⊤
IsEmpty (Some bytes) = bytes ≡ []

-- whether a client in this phase has no request in progress, and may have a next one
abbrev pub is_free : Phase → Bool
is_free phase.Parked = true
is_free phase.Waiting = true
is_free phase.Idle = true
is_free phase.Leaving = true
is_free phase.Answering = false
is_free phase.Flushing = false
is_free phase.Closing = false
is_free phase.Over = false

-- whether it has had its last connection, and the rest of its output is sent
abbrev pub is_ending : Phase → Bool
is_ending phase.Parked = false
is_ending phase.Waiting = false
is_ending phase.Idle = false
is_ending phase.Leaving = false
is_ending phase.Answering = false
is_ending phase.Flushing = true
is_ending phase.Closing = true
is_ending phase.Over = false

module _ {P : Type 0} (turns : TransitionRelation P) (starts : WorldState SystemState P → Type 0) (frames : List ℕ
    → Frame
    → Type 0) (pool : ℕ) where
  -- The bytes on the last connection, in a state of its world, if there was one.
  abbrev pub IsLast : Option (Visit P) → (came sent : List ℕ) → Type 0
  IsLast None came sent = (came ≡ []) × (sent ≡ [])
  IsLast (Some v) came sent = (came ≡ v.came) × (sent ≡ v.sent)
      × HasVisited turns starts pool v.conn v.came v.sent false v.world

  -- A socket supplied the bytes received on connections that were left and on a last one, and others after them. It
  -- accepted the bytes sent on them, from the first on, except for the unsent bytes.
  pub record IsServed (unsent supplied accepted : List ℕ) : Type 0 where
    pub past_came : List ℕ
    pub past_sent : List ℕ
    pub were : WereLeft turns starts frames pool past_came past_sent
    pub visit : Option (Visit P)
    pub came : List ℕ
    pub sent : List ℕ
    pub last : IsLast visit came sent
    pub waiting : List ℕ
    pub holds : Holds past_came past_sent came sent waiting unsent supplied accepted

  -- A request closed the last connection, and all bytes sent on the connections were accepted, except for the unsent
  -- bytes.
  pub record IsServedToClose (unsent supplied accepted : List ℕ) : Type 0 where
    pub past_came : List ℕ
    pub past_sent : List ℕ
    pub were : WereLeft turns starts frames pool past_came past_sent
    pub visit : Visit P
    pub closed : IsClosed turns starts frames pool visit
    pub waiting : List ℕ
    pub holds : Holds past_came past_sent visit.came visit.sent waiting unsent supplied accepted

  -- All connections were left, no complete request waits, and the peer sends no more.
  pub record IsServedToEnd (is_ended : Bool) (unsent supplied accepted : List ℕ) : Type 0 where
    pub past_came : List ℕ
    pub past_sent : List ℕ
    pub were : WereLeft turns starts frames pool past_came past_sent
    pub waiting : List ℕ
    pub none : frames waiting frame.Incomplete
    pub ended : IsTrue is_ended
    pub holds : Holds past_came past_sent [] [] waiting unsent supplied accepted

  -- The requests were answered to the end, except for the unsent bytes.
  abbrev pub IsServedWhole : (is_ended : Bool) (unsent supplied accepted : List ℕ) → Type 0
  IsServedWhole is_ended unsent supplied accepted =
      IsServedToClose unsent supplied accepted ⊎ IsServedToEnd is_ended unsent supplied accepted

  -- The connection of a client without a request in progress, if it has one.
  abbrev pub IsOpenAt : Serving P → Option Link → (came sent : List ℕ) → Type 0
  IsOpenAt s None came sent = (came ≡ []) × (sent ≡ [])
  IsOpenAt s (Some l) came sent = IsOpen turns starts frames pool s l came sent

  -- The connection of a client with a request in progress.
  abbrev pub IsAskingAt : Serving P → Option Link → (is_last : Bool) → Input → (came sent : List ℕ) → Type 0
  IsAskingAt s None is_last input came sent = ⊥
  IsAskingAt s (Some l) is_last input came sent = IsAsking turns starts frames pool s l is_last input came sent

  -- A client has no request in progress.
  pub record IsBetween (s : Serving P) (o : Option Link) (input : Input) (unsent supplied accepted : List ℕ) :
      Type 0 where
    pub past_came : List ℕ
    pub past_sent : List ℕ
    pub were : WereLeft turns starts frames pool past_came past_sent
    pub came : List ℕ
    pub sent : List ℕ
    pub is : IsOpenAt s o came sent
    pub asked : input.asked ≡ 0
    pub given : input.given ≡ 0
    pub holds : Holds past_came past_sent came sent input.bytes.items unsent supplied accepted

  -- A client has a request in progress.
  pub record IsWithin (s : Serving P) (o : Option Link) (is_last : Bool) (input : Input)
      (unsent supplied accepted : List ℕ) : Type 0 where
    pub past_came : List ℕ
    pub past_sent : List ℕ
    pub were : WereLeft turns starts frames pool past_came past_sent
    pub came : List ℕ
    pub sent : List ℕ
    pub is : IsAskingAt s o is_last input came sent
    pub holds : Holds past_came past_sent came sent (waiting_of input) unsent supplied accepted

  -- The same for a client by its phase.
  pub record IsInPhase (s : Serving P) (o : Option Link) (at : Phase) (is_last is_whole : Bool) (input : Input)
      (unsent supplied accepted : List ℕ)
      : Type 0 where
    pub between : IsTrue (is_free at) → IsBetween s o input unsent supplied accepted
    pub within : at ≡ phase.Answering → IsWithin s o is_last input unsent supplied accepted
    pub served : IsTrue (is_ending at) → IsServed unsent supplied accepted
    pub over : at ≡ phase.Over → (lost : List ℕ) × IsServed lost supplied accepted
    pub whole : IsTrue (is_ending at) → IsTrue is_whole → IsServedWhole input.ended unsent supplied accepted
    pub all : at ≡ phase.Closing → unsent ≡ []

  -- The history of a client with known bytes, which may have a connection of the worlds that serve.
  pub record IsFollowed {S : Type 0} (supplied accepted : S → Option (List ℕ)) (s : Serving P) (o : Option Link)
      (c : Client S) : Type 0 where
    pub from : List ℕ
    pub to : List ℕ
    pub supplies : supplied c.socket ≡ Some from
    pub accepts : accepted c.socket ≡ Some to
    pub is : IsInPhase s o c.phase c.is_last c.is_whole c.input (unsent_of c.output) from to

  -- The invariant of a client in each phase, and of a client whose output was ended after its requests were answered to
  -- the end.
  pub record HasHistory {S : Type 0} (supplied accepted : S → Option (List ℕ)) (c : Client S) : Type 0 where
    pub from : List ℕ
    pub to : List ℕ
    pub supplies : supplied c.socket ≡ Some from
    pub accepts : accepted c.socket ≡ Some to
    pub unsent : List ℕ
    pub served : IsServed unsent from to
    pub whole : c.phase ≡ phase.Closing → IsTrue c.is_whole → IsServedWhole c.input.ended [] from to

  -- The same, if the bytes of sockets are known.
  abbrev pub HasKnownHistory : {S : Type 0} → (supplied accepted : S → Option (List ℕ)) → Client S → Type 0
  HasKnownHistory supplied accepted c = AreKnown supplied accepted → ∥ HasHistory supplied accepted c ∥₁

  -- That of each client, by their places and those of their connections.
  abbrev pub AreFollowed : {S : Type 0} → (supplied accepted : S → Option (List ℕ)) → Serving P → List (Option Link)
      → List (Option (Client S)) → Type 0
  AreFollowed {S} supplied accepted s table clients = AreKnown supplied accepted → (slot : ℕ) (c : Client S)
      → get_or clients slot None ≡ Some c → ∥ IsFollowed supplied accepted s (link_at table slot) c ∥₁

-- A response was sent whole, and the client keeps its connection.
pub record IsCompleted {S : Type 0} (c next : Client S) : Type 0 where
  pub asking : c.phase ≡ phase.Answering
  pub keeps : IsFalse c.is_last
  pub all : c.input.asked ≤ c.input.given
  pub finished : IsFinished c.input next.input
  pub idle : next.phase ≡ phase.Idle
  pub socket : next.socket ≡ c.socket
  pub output : next.output ≡ c.output

-- the phase of the client in this place
abbrev pub IsPhaseAt : {S : Type 0} → (slot : ℕ) → List (Option (Client S)) → Phase → Type 0
IsPhaseAt {S} slot clients at = (c : Client S) → get_or clients slot None ≡ Some c → c.phase ≡ at

-- the free place that the next client gets, the last one of these, if there is one
abbrev pub next_free : List ℕ → Option ℕ
next_free free = slice_get free (length free - 1)

-- a client with this socket is in this place
abbrev pub HasSocketAt : {S : Type 0} → (socket : S) → (slot : ℕ) → List (Option (Client S)) → Type 0
HasSocketAt {S} socket slot clients = (c : Client S) × (get_or clients slot None ≡ Some c) × (c.socket ≡ socket)

-- Every place except this one keeps its client, or none, and there are as many places.
pub record OthersStay {S : Type 0} (slot : ℕ) (clients after : List (Option (Client S))) : Type 0 where
  pub others : (j : ℕ) → j ≢ slot → get_or after j None ≡ get_or clients j None
  pub places : length after ≡ length clients

-- a frame of the bytes after the request in progress of the client in this place
abbrev pub IsFrameAt : {S : Type 0} → (frames : List ℕ → Frame → Type 0) → (slot : ℕ) → List (Option (Client S)) → Frame
    → Type 0
IsFrameAt {S} frames slot clients f = (c : Client S) → get_or clients slot None ≡ Some c
    → frames (drop c.input.asked c.input.bytes.items) f
