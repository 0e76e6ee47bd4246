-- Each running script has a worker of its own, whatever the server's policy.
use Rattle.std.specs.Prelude.{◌≡◌, ◌≢◌, ◌<◌, ℕ, Bool, List, Option, Some, IsTrue, IsFalse, ⊤}
use Rattle.iol_core.specs.NumberedLists.{in_place}
use Rattle.iol_core.specs.declared.events.Reply.{Reply}
use Rattle.iol_proc.specs.declared.process.Turn.{Turn}
use Rattle.flash_laws.specs.Client.{Client, uses_agg, uses_fd, awaits}
use Rattle.flash_laws.specs.Site.Places.{NoneRuns, is_run_by, EachHasItsOwn, has_free, may_go, filed}
use Rattle.flash_laws.specs.Serves.{Server, new_server, any, server_turns}
use Rattle.flash_laws.specs.declared.phase.PendingCall.{PendingCall}
use Rattle.flash_laws.specs.declared.phase.PendingCall.TheVariants.{At}

-- the client of the pending call does not wait for a worker, or one is free
abbrev pub PendingCallGoes : (workers : ℕ) → List (Option Client) → PendingCall → Type 0
PendingCallGoes workers clients (At fd) = (x : Client) → in_place clients fd ≡ Some x
    → IsTrue (may_go (has_free workers clients) x)
PendingCallGoes workers clients w = ⊤

pub record IsShared (s : Server) : Type 0 where
  pub own : EachHasItsOwn s.workers s.clients
  pub goes : PendingCallGoes s.workers s.clients s.pending_call

-- this worker runs the script of a client at another index
pub record RunsForAnother (clients : List (Option Client)) (fd k : ℕ) : Type 0 where
  pub place : ℕ
  pub client : Client
  pub there : in_place clients place ≡ Some client
  pub runs : IsTrue (is_run_by client k)
  pub other : fd ≢ place

pub record WorkersAreShared : Type 0 where
  -- this holds for a new server, with any number of workers
  pub first : (workers : ℕ) → IsShared (record new_server { workers = workers })
  -- processing a reply preserves it
  pub filing : (workers : ℕ) (clients : List (Option Client)) (pending_call : PendingCall) (r : Reply)
      (received : List ℕ)
      → EachHasItsOwn workers clients → PendingCallGoes workers clients pending_call
      → EachHasItsOwn workers (filed workers clients pending_call r received)
  -- the same for a turn, for every choice
  pub turns : (s t : Server) (last : Reply) (readable : ℕ → Option (List ℕ)) (made : Turn) → IsShared s
      → server_turns any s last readable made t → IsShared t
  -- a waiting client is passed over only while each worker runs the script of another client
  pub waits : (workers : ℕ) (clients : List (Option Client)) (fd : ℕ) (x : Client) → in_place clients fd ≡ Some x
      → IsFalse (may_go (has_free workers clients) x)
      → IsTrue (awaits x) × ((k : ℕ) → k < workers → RunsForAnother clients fd k)
  -- no client with a running script is passed over
  pub going : (free : Bool) (k : ℕ) (x : Client) → IsTrue (is_run_by x k) → IsTrue (may_go free x)
  -- a waiting client has no aggregate, descriptor or pipe end
  pub waiting : (x : Client) → IsTrue (awaits x) → ((a : ℕ) → IsFalse (uses_agg x a))
      × ((g : ℕ) → IsFalse (uses_fd x g))
  -- for a server without workers no script runs
  pub none : (s t : Server) (last : Reply) (readable : ℕ → Option (List ℕ)) (made : Turn) → s.workers ≡ 0
      → NoneRuns s.clients
      → server_turns any s last readable made t → NoneRuns t.clients
