-- The condition of the server when all are idle.
use Rattle.std.specs.Prelude.{◌≡◌, ◌≤◌, ℕ, zero, suc, ◌⊎◌, nat_lt, List, Option, Some, IsFalse, ⊤}
use Rattle.iol_core.specs.NumberedLists.{in_place, taken}
use Rattle.iol_core.specs.State.{State}
use Rattle.iol_core.specs.Run.{StepsTo}
use Rattle.iol_core.specs.declared.refusals.Refusal.TheVariants as no
use Rattle.iol_core.specs.declared.events.Call.{Call}
use Rattle.iol_core.specs.declared.events.Call.TheVariants as call
use Rattle.iol_core.specs.declared.events.Event.TheVariants as event
use Rattle.iol_core.specs.declared.events.Reply.{Reply}
use Rattle.iol_core.specs.declared.events.Reply.TheVariants as reply
use Rattle.iol_proc.specs.Quiescence.{Claim}
use Rattle.flash_laws.specs.Client.{Client, next_call, IsAwaiting}
use Rattle.flash_laws.specs.Site.Places.{has_free, may_go, runs_scripts}
use Rattle.flash_laws.specs.declared.phase.PendingCall.{PendingCall}
use Rattle.flash_laws.specs.declared.phase.PendingCall.TheVariants.{Nothing, Accepting, At}
use Rattle.flash_laws.specs.Serves.{Server}
use Rattle.flash_laws.specs.Conn.Policy.{most_conns}
use Rattle.flash_laws.specs.World.Consistency.{Actor, Serving, Working}

-- a call would block, in this state
abbrev pub WouldWait : State → (by : ℕ) → Call → Type 0
WouldWait m by k = StepsTo m (event.Call by k) (reply.Refused no.WouldBlock) m

-- a client has no request that could begin, and waits for a worker while all are busy, or its call would block
abbrev pub Blocks : State → (by workers : ℕ) → List (Option Client) → (place : ℕ) → Client → Type 0
Blocks m by workers clients place x = IsAwaiting x
    × (IsFalse (may_go (has_free workers clients) x) ⊎ WouldWait m by (next_call (runs_scripts workers) place x))

-- the same for the client at an index, if there is one
abbrev pub BlocksAt : State → (by workers : ℕ) → List (Option Client) → (place : ℕ) → Type 0
BlocksAt m by workers clients place = (x : Client) → in_place clients place ≡ Some x
    → Blocks m by workers clients place x

-- the same for a whole round: the clients, and an accept, unless the server has the maximum number
pub record AllBlock (m : State) (by workers : ℕ) (clients : List (Option Client)) : Type 0 where
  pub places : (place : ℕ) → BlocksAt m by workers clients place
  pub accept_step : IsFalse (nat_lt (taken clients) most_conns) ⊎ WouldWait m by call.Accept

-- the same for a round up to this client
abbrev pub BlockUpTo : State → (by workers : ℕ) → List (Option Client) → PendingCall → Type 0
BlockUpTo m by workers clients Nothing = ⊥
BlockUpTo m by workers clients (At fd) = (place : ℕ) → place ≤ fd → BlocksAt m by workers clients place
BlockUpTo m by workers clients Accepting = AllBlock m by workers clients

-- the server has just yielded, or its call would have blocked
abbrev pub HasYielded : Server → Reply → Type 0
HasYielded s l = (s.pending_call ≡ Nothing) × (l ≡ reply.Done)

abbrev pub HasBlocked : State → (by : ℕ) → Server → Reply → Type 0
HasBlocked m by s l = (l ≡ reply.Refused no.WouldBlock) × BlockUpTo m by s.workers s.clients s.pending_call

abbrev pub IsPolling : State → (by : ℕ) → Server → Reply → Type 0
IsPolling m by s l = HasYielded s l ⊎ HasBlocked m by s l

-- since n yields, up to two: after one, the calls polled since then would block; after two, all calls would
abbrev pub server_quiescent : Claim Server
server_quiescent zero by s l m = ⊤
server_quiescent (suc zero) by s l m = IsPolling m by s l
server_quiescent (suc (suc n)) by s l m = IsPolling m by s l × AllBlock m by s.workers s.clients

module _ {W : Type 0} (Quiescent : Claim W) where
  abbrev pub actor_quiescent : Claim (Actor W)
  actor_quiescent n by (Serving s) l m = server_quiescent n by s l m
  actor_quiescent n by (Working w) l m = Quiescent n by w l m
