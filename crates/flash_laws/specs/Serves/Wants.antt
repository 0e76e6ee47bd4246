-- The uses of memory by the server in a turn: to buffer bytes that it reads, for a new index, to begin a request, and
-- for the bytes of a call.
use Rattle.std.specs.Prelude.{◌⊎◌, ◌≤◌, ℕ, ◌+◌, Bool, false, List, length, Option, Some, None, IsTrue}
use Rattle.iol_core.specs.NumberedLists.{in_place}
use Rattle.iol_core.specs.declared.events.Reply.{Reply}
use Rattle.iol_core.specs.declared.events.Reply.TheVariants as reply
use Rattle.flash_laws.specs.Client.{Client, after_reply}
use Rattle.flash_laws.specs.Client.Wants.{WantsOn, makes_bytes}
use Rattle.flash_laws.specs.Site.Places.{first_free, has_free, runs_scripts, filed}
use Rattle.flash_laws.specs.Serves.Rounds.{leaves_off, next_in}
use Rattle.flash_laws.specs.Serves.{Server, received_of}
use Rattle.flash_laws.specs.declared.phase.PendingCall.{PendingCall}
use Rattle.flash_laws.specs.declared.phase.PendingCall.TheVariants.{Nothing, Accepting, At}

-- the client at an index needs it after a reply; `worker` is a free worker
abbrev pub WantsHere : (scripts : Bool) → (worker : ℕ) → Option Client → Reply → (received : List ℕ) → Type 0
WantsHere scripts worker None r received = ⊥
WantsHere scripts worker (Some x) r received = WantsOn scripts (after_reply scripts worker x r received) x r received

-- a client that is picked needs it for the bytes of its call
abbrev pub wants_there : Option Client → Bool
wants_there None = false
wants_there (Some x) = makes_bytes x

abbrev pub wants_in : List (Option Client) → Option ℕ → Bool
wants_in clients None = false
wants_in clients (Some place) = wants_there (in_place clients place)

-- the first from an index on is picked; free is whether a worker is free
abbrev pub WantsFrom : (free : Bool) → List (Option Client) → (from : ℕ) → Type 0
WantsFrom free clients from = IsTrue (wants_in clients (next_in free clients from))

-- a connection was accepted at a new index
abbrev pub WantsPlace : List (Option Client) → Reply → Type 0
WantsPlace clients (reply.Fd fd) = length clients ≤ fd
WantsPlace clients r = ⊥

-- after a reply is processed, the turn of the client at an index passes on, and the next is picked
abbrev pub WantsPast : (workers : ℕ) → (filed : List (Option Client)) → (fd : ℕ) → Reply → Type 0
WantsPast workers filed fd r = IsTrue (leaves_off (in_place filed fd) r)
    × WantsFrom (has_free workers filed) filed (fd + 1)

-- after the reply to the pending call
abbrev pub MayWant : (workers : ℕ) → List (Option Client) → PendingCall → Reply → (received : List ℕ) → Type 0
MayWant workers clients Nothing r received = WantsFrom (has_free workers clients) clients 0
MayWant workers clients Accepting r received = WantsPlace clients r
MayWant workers clients (At fd) r received =
    WantsHere (runs_scripts workers) (first_free workers clients) (in_place clients fd) r received
    ⊎ WantsPast workers (filed workers clients (At fd) r received) fd r

-- the server, in a turn
abbrev pub server_wants : Server → Reply → (readable : ℕ → Option (List ℕ)) → Type 0
server_wants s r readable = MayWant s.workers s.clients s.pending_call r (received_of r readable)
