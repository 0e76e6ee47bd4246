-- Fairness of turns: between two responses to one client each other client that may take a turn takes one.
use Rattle.std.specs.Prelude.{◌≡◌, ◌≢◌, ◌⊎◌, ℕ, Bool, true, false, List, [], ◌∷◌, ◌++◌, Option, Some, None, IsTrue, ⊤}
use Rattle.iol_core.specs.NumberedLists.{in_place}
use Rattle.iol_core.specs.declared.events.Reply.{Reply}
use Rattle.iol_proc.specs.declared.process.Turn.{Turn}
use Rattle.flash_laws.specs.Client.{Client}
use Rattle.flash_laws.specs.Conn.{begins}
use Rattle.flash_laws.specs.Site.Places.{has_free}
use Rattle.flash_laws.specs.Serves.{Server, filed_in, server_turns}
use Rattle.flash_laws.specs.Serves.Rounds.{goes_in, in_rounds}
use Rattle.flash_laws.specs.declared.phase.Phase.{Phase}
use Rattle.flash_laws.specs.declared.phase.Phase.TheVariants.{DroppingSent}
use Rattle.flash_laws.specs.declared.phase.PendingCall.TheVariants.{At}
use Rattle.flash_laws.specs.declared.script_run.Running.{Running}
use Rattle.flash_laws.specs.declared.script_run.Running.TheVariants.{Finishing}

-- one turn of the server: the reply to its last call, the bytes that it may read, its action, and the server after it
pub record OneTurn : Type 0 where
  pub last : Reply
  pub readable : ℕ → Option (List ℕ)
  pub made : Turn
  pub after : Server

-- its clients after that reply
abbrev pub clients_in : Server → OneTurn → List (Option Client)
clients_in s x = filed_in s x.last x.readable

-- consecutive turns
abbrev pub Follow : Server → List OneTurn → Type 0
Follow s [] = ⊤
Follow s (x ∷ xs) = server_turns in_rounds s x.last x.readable x.made x.after × Follow x.after xs

-- at each of them there is a client at this index that may take a turn
abbrev pub GoesThroughout : (gd : ℕ) → Server → List OneTurn → Type 0
GoesThroughout gd s [] = ⊤
GoesThroughout gd s (x ∷ xs) = IsTrue (goes_in (has_free s.workers (clients_in s x)) (in_place (clients_in s x) gd))
    × GoesThroughout gd x.after xs

-- one of them is of the client at this index
abbrev pub HasATurn : (gd : ℕ) → List OneTurn → Type 0
HasATurn gd [] = ⊥
HasATurn gd (x ∷ xs) = (x.after.pending_call ≡ At gd) ⊎ HasATurn gd xs

-- whether the response is taken whole
abbrev pub is_taken : Phase → Bool
is_taken (DroppingSent a taken None) = true
is_taken d = false

abbrev pub is_answered : Client → Bool
is_answered x = by x.run
  where
    by : Option Running → Bool
    by None = is_taken x.conn.phase
    by (Some (Finishing d)) = is_taken d
    by (Some y) = false

-- with this reply the response to the client at an index is taken whole
pub record Answers (fd : ℕ) (s : Server) (x : OneTurn) : Type 0 where
  pub client : Client
  pub turn : s.pending_call ≡ At fd
  pub there : in_place (clients_in s x) fd ≡ Some client
  pub answered : IsTrue (is_answered client)

-- the client at an index makes the first call for a request
pub record BeginsAt (fd : ℕ) (s : Server) : Type 0 where
  pub client : Client
  pub turn : s.pending_call ≡ At fd
  pub there : in_place s.clients fd ≡ Some client
  pub begins : client.conn.phase ≡ begins client.conn.request
  pub no_script : client.run ≡ None

-- From the turn with whose reply a response is taken whole, to the turn in which the same client begins a request, each
-- other client that may take a turn at all of them takes one.
abbrev pub TurnsAreFair : Type 0
TurnsAreFair = (s : Server) (x : OneTurn) (xs : List OneTurn) (y : OneTurn) (fd gd : ℕ) → Follow s (x ∷ xs ++ y ∷ [])
    → Answers fd s x → BeginsAt fd y.after → fd ≢ gd → GoesThroughout gd s (x ∷ xs ++ y ∷ []) → HasATurn gd (x ∷ xs)
