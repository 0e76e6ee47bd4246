-- A turn of the server: it processes the reply to the pending call, picks a client, and makes its next call.
pub mod Rounds
pub mod RoundRobin
pub mod FairTurns
pub mod Wants
use Rattle.std.specs.Prelude.{◌≡◌, ℕ, List, [], Option, Some, unwrap_or, IsTrue, ⊤}
use Rattle.iol_core.specs.NumberedLists.{in_place}
use Rattle.iol_core.specs.State.{State}
use Rattle.iol_core.specs.Run.{StepsTo}
use Rattle.iol_core.specs.declared.events.Call.TheVariants as call
use Rattle.iol_core.specs.declared.events.Event.TheVariants as event
use Rattle.iol_core.specs.declared.events.Reply.{Reply}
use Rattle.iol_core.specs.declared.events.Reply.TheVariants as reply
use Rattle.iol_proc.specs.declared.process.Turn.{Turn}
use Rattle.iol_proc.specs.declared.process.Turn.TheVariants as turn
use Rattle.flash_laws.specs.Client.{Client, next_call, Readies}
use Rattle.flash_laws.specs.Site.Places.{has_free, may_go, runs_scripts, filed}
use Rattle.flash_laws.specs.Site.{server}
use Rattle.flash_laws.specs.Site.OtherConns.{with_at}
use Rattle.flash_laws.specs.declared.phase.PendingCall.{PendingCall}
use Rattle.flash_laws.specs.declared.phase.PendingCall.TheVariants.{Nothing, Accepting, At}

-- the state of the server: the client of each of its descriptors, the pending call, and the number of workers that run
-- its scripts
pub record Server : Type 0 where
  pub clients : List (Option Client)
  pub pending_call : PendingCall
  pub workers : ℕ

-- a server without workers, for which a script is a file like any other
abbrev pub new_server : Server
new_server = record { clients = []; pending_call = Nothing; workers = 0 }

-- the bytes of the aggregate of a reply
abbrev pub received_of : Reply → (readable : ℕ → Option (List ℕ)) → List ℕ
received_of (reply.Agg a) readable = unwrap_or (readable a) []
received_of r readable = []

-- The client at this index becomes ready, and its call is made. A client that waits for a worker takes a turn only if
-- one is free.
pub record PicksAt (workers : ℕ) (clients : List (Option Client)) (fd : ℕ) (made : Turn)
    (after : List (Option Client)) : Type 0 where
  pub was : Client
  pub ready : Client
  pub there : in_place clients fd ≡ Some was
  pub readies : Readies was ready
  pub after_is : after ≡ with_at clients fd (Some ready)
  pub goes : IsTrue (may_go (has_free workers after) ready)
  pub call_is : made ≡ turn.Make (next_call (runs_scripts workers) fd ready)

-- the choices: to yield, to accept, or the client at an index
abbrev pub Picks : (workers : ℕ) → List (Option Client) → PendingCall → (made : Turn) → (after : List (Option Client))
    → Type 0
Picks workers clients Nothing made after = (after ≡ clients) × (made ≡ turn.Yield)
Picks workers clients Accepting made after = (after ≡ clients) × (made ≡ turn.Make call.Accept)
Picks workers clients (At fd) made after = PicksAt workers clients fd made after

-- The choices that are permitted next, given the number of workers, the clients after the last reply is processed, and
-- the call to which it belongs.
abbrev pub Policy : Type 1
Policy = (workers : ℕ) → List (Option Client) → (was : PendingCall) → (last : Reply) → (next : PendingCall) → Type 0

-- all choices
abbrev pub any : Policy
any workers clients was last next = ⊤

-- the clients after the last reply is processed
abbrev pub filed_in : Server → (last : Reply) → (readable : ℕ → Option (List ℕ)) → List (Option Client)
filed_in s last readable = filed s.workers s.clients s.pending_call last (received_of last readable)

-- The account of the server: a choice that the policy permits is made, with its call.
abbrev pub server_turns : Policy → Server → Reply → (readable : ℕ → Option (List ℕ)) → Turn → Server → Type 0
server_turns may s last readable made t = may s.workers (filed_in s last readable) s.pending_call last t.pending_call
    × Picks s.workers (filed_in s last readable) t.pending_call made t.clients
    × (t.workers ≡ s.workers)

-- the result of a turn
abbrev pub Made : State → Turn → Reply → State → Type 0
Made m turn.Yield r n = (r ≡ reply.Done) × (n ≡ m)
Made m (turn.Make k) r n = StepsTo m (event.Call server k) r n
