-- A turn of the server, as its code makes it.
use Rattle.std.specs.Prelude.{◌≡◌, ℕ, ◌<◌, ◌≤◌, ◌+◌, ◌==◌, ◌||◌, ◌&&◌, not, Bool, true, false, nat_lt, List, length}
use Rattle.std.specs.Prelude.{get_or, take, Option, Some, None, slice_set, if◌then◌else◌, Result, IfOk, OnErr}
use Rattle.std.specs.Prelude.{MatchOption, IsTrue}
use Rattle.std.specs.List.{position_or_len}
use Rattle.iol_core.specs.NumberedLists.{in_place, taken}
use Rattle.iol_core.specs.declared.events.Call.{Call}
use Rattle.iol_core.specs.declared.events.Call.TheVariants as call
use Rattle.iol_core.specs.declared.events.Reply.{Reply}
use Rattle.iol_proc.specs.declared.process.Turn.{Turn}
use Rattle.iol_proc.specs.declared.process.Turn.TheVariants as turn
use Rattle.flash_laws.specs.Client.{Client, after_reply, next_call, Readies}
use Rattle.flash_laws.specs.Site.Places.{filed, runs_scripts}
use Rattle.flash_laws.specs.Serves.Rounds.{in_rounds, next_in}
use Rattle.flash_laws.specs.Serves.Wants.{MayWant, WantsFrom, WantsHere, wants_there}
use Rattle.flash_laws.specs.Serves.{Picks}
use Rattle.flash_laws.specs.declared.phase.Phase.TheVariants.{Closed}
use Rattle.flash_laws.specs.declared.phase.PendingCall.{PendingCall}
use Rattle.flash_laws.specs.declared.phase.PendingCall.TheVariants.{Nothing, Accepting, At}
use Rattle.flash_lite.specs.Course.{CanRest, IsCourse, left_with, remains, worker_of}
use Rattle.flash_lite.specs.Table.{Table, ReportsFree}
use Rattle.flash_lite.specs.declared.client.Course.{Course}
use Rattle.flash_lite.specs.declared.client.Left.{Left}
use Rattle.flash_lite.specs.declared.client.Left.TheVariants.{Goes, Ends, Stays}
use Rattle.flash_lite.specs.declared.server.TheConstants.{MAX_CONNS}
use Rattle.flash_lite.specs.declared.site.TheConstants.{MAX_WORKERS}

-- ---- the action of one client

-- the client at an index, and its action after a reply; `worker` is free
pub record CourseAt (scripts : Bool) (worker : ℕ) (clients : List (Option Client)) (fd : ℕ) (r : Reply)
    (received : List ℕ)
    (o : Course) (after : List (Option Client)) : Type 0 where
  pub was : Client
  pub now : Client
  pub there : in_place clients fd ≡ Some was
  pub within : fd < length clients
  pub course : IsCourse scripts fd (after_reply scripts worker was r received) was r o now
  pub after_is : after ≡ slice_set clients fd (Some now)

-- the same, or there is no client
abbrev pub CourseIn : (scripts : Bool) → (worker : ℕ) → List (Option Client) → (fd : ℕ) → Reply → (received : List ℕ)
    → Option Course → (after : List (Option Client)) → Type 0
CourseIn scripts worker clients fd r received None after = (in_place clients fd ≡ None) × (after ≡ clients)
CourseIn scripts worker clients fd r received (Some o) after = CourseAt scripts worker clients fd r received o after

-- the element at an index, after its turn passes to others
abbrev pub left_as : Option Client → Left → Option Client
left_as None l = None
left_as (Some x) l = remains l (left_with x l)

abbrev pub left_at : List (Option Client) → (fd : ℕ) → Left → List (Option Client)
left_at clients fd l = slice_set clients fd (left_as (in_place clients fd) l)

-- there is a client at an index, and its turn may pass to others in this state
abbrev pub MayRest : Option Client → Left → Type 0
MayRest None l = ⊥
MayRest (Some x) l = CanRest x l

-- ---- workers

-- the worker that runs the script of the client at an index
abbrev pub worker_in : Option Client → Option ℕ
worker_in None = None
worker_in (Some x) = worker_of x

abbrev pub worker_at : List (Option Client) → (fd : ℕ) → Option ℕ
worker_at clients fd = worker_in (in_place clients fd)

-- the worker that a client has in this state
abbrev pub worker_left : Left → Option ℕ → Option ℕ
worker_left (Goes d) worker = worker
worker_left Stays worker = worker
worker_left l worker = None

abbrev pub is_worker : Option ℕ → (worker : ℕ) → Bool
is_worker None worker = false
is_worker (Some k) worker = k == worker

-- the first free one of workers, or their number if all are busy
abbrev pub first_in : (workers : ℕ) → (free : List Bool) → ℕ
first_in workers free = position_or_len (λ b. b) (take workers free)

abbrev pub has_in : (workers : ℕ) → (free : List Bool) → Bool
has_in workers free = nat_lt (first_in workers free) workers

-- one client had a worker and now has another, or none: the free workers afterwards
pub record TurnsFree (free : List Bool) (was now : Option ℕ) (after : List Bool) : Type 0 where
  pub long : length after ≡ length free
  pub each : (worker : ℕ) → worker < MAX_WORKERS
      → get_or after worker false ≡ not (is_worker now worker) && (is_worker was worker || get_or free worker false)

-- ---- the next client

-- the call of the client at an index
pub record CallAt (scripts : Bool) (clients : List (Option Client)) (place : ℕ) (made : Call) : Type 0 where
  pub was : Client
  pub there : in_place clients place ≡ Some was
  pub ready : Readies was was
  pub call_is : made ≡ next_call scripts place was

abbrev pub Makes : (scripts : Bool) → List (Option Client) → (from : ℕ) → PendingCall → Turn → Type 0
Makes scripts clients from Nothing made = made ≡ turn.Yield
Makes scripts clients from Accepting made = made ≡ turn.Make call.Accept
Makes scripts clients from (At place) made = (from ≤ place) × (k : Call) × (made ≡ turn.Make k)
    × CallAt scripts clients place k

-- after the last index a connection is accepted, or the round is over
abbrev pub AtAcceptStep : PendingCall → Turn → Type 0
AtAcceptStep Nothing made = made ≡ turn.Yield
AtAcceptStep Accepting made = made ≡ turn.Make call.Accept
AtAcceptStep (At place) made = ⊥

-- the choice between them, if most connections may be held
abbrev pub accept_step_to : List (Option Client) → (most : ℕ) → PendingCall
accept_step_to clients most = if nat_lt (taken clients) most then Accepting else Nothing

abbrev pub pending_call_by : List (Option Client) → (most : ℕ) → Option ℕ → PendingCall
pending_call_by clients most (Some place) = At place
pending_call_by clients most None = accept_step_to clients most

-- the first client from an index on is picked, or after the last index a connection is accepted
pub record PicksFrom (scripts free : Bool) (clients : List (Option Client)) (from most : ℕ) (pending_call : PendingCall)
    (made : Turn) : Type 0 where
  pub pending_call_is : pending_call ≡ pending_call_by clients most (next_in free clients from)
  pub makes : Makes scripts clients from pending_call made

-- whether its connection is over
abbrev pub ends : Left → Bool
ends (Goes Closed) = true
ends (Ends Closed) = true
ends l = false

-- the maximum number of connections, and one more if a connection is over
abbrev pub most_with : Left → ℕ
most_with l = if ends l then MAX_CONNS + 1 else MAX_CONNS

-- ---- a turn

-- the clients after the reply is processed
abbrev pub filed_by : Table → Reply → (received : List ℕ) → List (Option Client)
filed_by t r received = filed t.workers t.clients t.pending_call r received

-- the choice then, in rounds
pub record Turns (s : Table) (r : Reply) (received : List ℕ) (made : Turn) (t : Table) : Type 0 where
  pub policy : in_rounds s.workers (filed_by s r received) s.pending_call r t.pending_call
  pub picks : Picks s.workers (filed_by s r received) t.pending_call made t.clients
  pub hired : t.workers ≡ s.workers
  pub reports : ReportsFree t.free t.clients

-- ---- parts of a turn, with or without memory

-- The action of the client at an index after a reply, if there is a client. Or it runs out of memory, if it may need
-- some, and all clients are unchanged.
pub record ProceedsAt {E : Type 0} (scripts : Bool) (worker : ℕ) (clients : List (Option Client)) (fd : ℕ) (r : Reply)
    (received : List ℕ) (result : Result (Option Course) E) (after : List (Option Client)) : Type 0 where
  pub course : IfOk result (λ o. CourseIn scripts worker clients fd r received o after)
  pub err : OnErr result (after ≡ clients)
  pub wants : OnErr result (WantsHere scripts worker (in_place clients fd) r received)

-- The call of the client at an index is made, if there is a client. Or there is no memory for its bytes, if it has
-- some.
pub record MakesCallAt {E : Type 0} (scripts : Bool) (clients : List (Option Client)) (place : ℕ)
    (result : Result (Option Call) E) : Type 0 where
  pub call :
      IfOk result (λ found. MatchOption found (in_place clients place ≡ None) (λ k. CallAt scripts clients place k))
  pub wants : OnErr result (IsTrue (wants_there (in_place clients place)))

-- The first client from an index on that may take a turn is picked; or after the last index a connection is accepted,
-- or the round is over. Only the pending call changes. Or there is no memory for a call with bytes of its own, and
-- nothing changes.
pub record PicksNext {E : Type 0} (from : ℕ) (s : Table) (result : Result Turn E) (t : Table) : Type 0 where
  pub picks : IfOk result
      (λ made. PicksFrom (runs_scripts s.workers) (has_in s.workers s.free) s.clients from MAX_CONNS t.pending_call
      made)
  pub same : IfOk result (λ made. t ≡ record {
    clients = s.clients;
    pending_call = t.pending_call;
    workers = s.workers;
    free = s.free;
  })
  pub err : OnErr result (t ≡ s)
  pub wants : OnErr result (WantsFrom (has_in s.workers s.free) s.clients from)

-- The turn of the client at an index passes to others, `free` has the workers that are free then, and the first client
-- after that index that may take a turn is picked; or after the last index a connection is accepted, or the round is
-- over. A client whose connection is over makes room for one more. Or there is no memory for a call with bytes of its
-- own, and nothing changes.
pub record LeavesPlace {E : Type 0} (fd : ℕ) (l : Left) (free : List Bool) (s : Table) (result : Result Turn E)
    (t : Table) : Type 0 where
  pub picks : IfOk result
      (λ made. PicksFrom (runs_scripts s.workers) (has_in s.workers free) s.clients (fd + 1) (most_with l)
      t.pending_call made)
  pub left : IfOk result
      (λ made. t ≡ record {
        clients = left_at s.clients fd l;
        pending_call = t.pending_call;
        workers = s.workers;
        free = free;
      })
  pub err : OnErr result (t ≡ s)
  pub wants : OnErr result (WantsFrom (has_in s.workers free) s.clients (fd + 1))

-- when a turn may need memory, after a reply to the pending call
abbrev pub WantsAt : Table → PendingCall → Reply → (received : List ℕ) → Type 0
WantsAt s pending_call r received = MayWant s.workers s.clients pending_call r received
