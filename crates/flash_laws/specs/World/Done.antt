-- The state when all are idle: nothing is left to do, except for peers that do not read.
use Rattle.std.specs.Prelude.{◌≡◌, ◌<◌, ◌≤◌, ◌⊎◌, ℕ, true, List, [], ◌++◌, length, Option, Some, None, IsTrue}
use Rattle.std.specs.Prelude.{IsFalse}
use Rattle.iol_core.specs.NumberedLists.{in_place}
use Rattle.iol_core.specs.Text.{bytes_of}
use Rattle.iol_core.specs.State.{State, descriptor, conn_at}
use Rattle.iol_core.specs.declared.descriptors.Descriptor.TheVariants as on
use Rattle.iol_core.specs.declared.limits.TheConstants.{MAX_QUEUE_BYTES}
use Rattle.iol_core.specs.declared.events.Reply.{Reply}
use Rattle.iol_proc.specs.Idle.{Idles}
use Rattle.iol_proc.specs.World.{WorldState, copying}
use Rattle.iol_proc.specs.declared.choice.Choice.{Choice}
use Rattle.flash_laws.specs.Client.{Client, uses_agg, awaits}
use Rattle.flash_laws.specs.Workers.WorkerSet.{WorkerSet}
use Rattle.flash_laws.specs.World.Remains.{IsFull, StaysOpen, AnswersScript}
use Rattle.flash_laws.specs.Conn.Fits.{IsReadable}
use Rattle.flash_laws.specs.World.Quiesces.{ActorsAreQuiescent}
use Rattle.flash_laws.specs.Site.Past.{Past}
use Rattle.flash_laws.specs.Site.Places.{is_run_by}
use Rattle.flash_laws.specs.Serves.Rounds.{in_rounds}
use Rattle.flash_laws.specs.Site.ClientConsistency.{IsUsed}
use Rattle.flash_laws.specs.SiteContents.{SiteContents, IsAnswer}
use Rattle.flash_laws.specs.Site.{server}
use Rattle.flash_laws.specs.World.Consistency.{past_of, Actor, actor_turns}
use Rattle.flash_laws.specs.World.{Consistent}

-- the output queue is full
abbrev pub IsHeldUp : State → (c : ℕ) → Type 0
IsHeldUp m c = MAX_QUEUE_BYTES ≤ length (conn_at m c).outgoing

-- the client at this descriptor is blocked by a full output queue
abbrev pub IsHeldUpAt : State → (fd : ℕ) → Type 0
IsHeldUpAt m fd = (c : ℕ) × (descriptor m server fd ≡ Some (on.Connection c)) × IsHeldUp m c

-- The request in progress on this connection is for a script, and this part of the response is made; or its peer left.
abbrev pub AsksForScript : SiteContents → State → Past → (c : ℕ) → (part : List ℕ) → Type 0
AsksForScript site_contents m p c part = IsTrue (p.gone c)
    ⊎ AnswersScript site_contents (p.came c) (p.sent c ++ bytes_of (conn_at m c).outgoing) part

-- this worker runs the script that was requested on a connection with a full output queue
pub record RunsForHeldUp (site_contents : SiteContents) (m : State) (p : Past) (clients : List (Option Client))
    (k : ℕ) : Type 0 where
  pub place : ℕ
  pub client : Client
  pub there : in_place clients place ≡ Some client
  pub runs : IsTrue (is_run_by client k)
  pub conn : ℕ
  pub open_on : descriptor m server place ≡ Some (on.Connection conn)
  pub held : IsHeldUp m conn
  pub part : List ℕ
  pub asks : AsksForScript site_contents m p conn part

-- The client of this connection requested a script, and none of the response is made yet: it waits for a worker, while
-- each runs the script of a client with a full output queue.
pub record AwaitsWorker (site_contents : SiteContents) (workers : ℕ) (m : State) (p : Past)
    (clients : List (Option Client))
    (c : ℕ) : Type 0 where
  pub place : ℕ
  pub client : Client
  pub there : in_place clients place ≡ Some client
  pub open_on : descriptor m server place ≡ Some (on.Connection c)
  pub waits : IsTrue (awaits client)
  pub asks : AsksForScript site_contents m p c []
  pub some : 0 < workers
  pub busy : (k : ℕ) → k < workers → RunsForHeldUp site_contents m p clients k

pub record IsDone (site_contents : SiteContents) (workers : ℕ) (m : State) (p : Past) (clients : List (Option Client)) :
    Type 0 where
  -- each connection of the net is accepted, unless the server has the maximum number open
  pub accepted : (c : ℕ) → IsTrue (p.net c) → IsTrue (conn_at m c).accepted ⊎ IsFull m clients
  -- each accepted connection whose peer did not leave, closed or not, has its whole answer, or its output queue is
  -- full, or it waits for a worker
  pub answered : (c : ℕ) → IsTrue (p.net c) → IsTrue (conn_at m c).accepted → IsFalse (p.gone c)
      → IsAnswer site_contents (p.came c) (p.sent c ++ bytes_of (conn_at m c).outgoing)
      ⊎ IsHeldUp m c ⊎ AwaitsWorker site_contents workers m p clients c
  -- each accepted connection is closed, or has a full output queue, or waits for a worker, or its peer exists and may
  -- send more requests
  pub closes : (c : ℕ) → IsTrue (p.net c) → IsTrue (conn_at m c).accepted
      → IsTrue (conn_at m c).closed ⊎ IsHeldUp m c ⊎ AwaitsWorker site_contents workers m p clients c
      ⊎ (((conn_at m c).peer ≡ None) × StaysOpen (p.came c))
  -- a client that uses an aggregate is blocked by a full output queue
  pub held_up : (fd a : ℕ) (x : Client) → in_place clients fd ≡ Some x → IsTrue (uses_agg x a) → IsHeldUpAt m fd
  -- and each aggregate of the server is used by such a client, or an external call gave it
  pub owned : (a : ℕ) → IsReadable m a → ((used : IsUsed clients a) × IsHeldUpAt m used.fd) ⊎ IsTrue (p.given a)

-- When all are idle in a world with the invariant, nothing is left to do.
abbrev pub IdleIsDone : WorkerSet → Type 0
IdleIsDone worker_set = ActorsAreQuiescent worker_set.turns worker_set.quiescent
    → (site_contents : SiteContents) (xs : List Choice) (rs : List Reply)
    (w after : WorldState State (Actor worker_set.Worker)) (most : ℕ)
    → Idles copying (actor_turns in_rounds worker_set.turns) w most true after
    → (consistent : Consistent site_contents worker_set xs rs after)
    → IsDone site_contents worker_set.count after.machine (past_of xs rs) consistent.in_slots.state.clients
