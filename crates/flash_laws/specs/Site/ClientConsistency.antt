-- The invariant of all clients of the server, and of its workers, by input and output.
use Rattle.std.specs.Prelude.{◌≡◌, ◌<◌, ◌≤◌, ◌⊎◌, ℕ, List, [], ◌++◌, Option, Some, slice_get, IsTrue}
use Rattle.std.specs.Prelude.{IsFalse}
use Rattle.iol_core.specs.NumberedLists.{in_place}
use Rattle.iol_core.specs.Text.{bytes_of}
use Rattle.iol_core.specs.State.{State, Connection, descriptor, conn_at, is_gone}
use Rattle.iol_core.specs.declared.descriptors.Descriptor.TheVariants as on
use Rattle.iol_proc.specs.declared.process_slot.ProcessSlot.{ProcessSlot}
use Rattle.flash_laws.specs.Client.{Client, uses_agg}
use Rattle.flash_laws.specs.Client.Fits.{Fits}
use Rattle.flash_laws.specs.Client.Holdings.{has_fd}
use Rattle.flash_laws.specs.Workers.WorkerSet.{WorkerSet}
use Rattle.flash_laws.specs.Conn.Fits.{IsReadable}
use Rattle.flash_laws.specs.Site.Past.{Past}
use Rattle.flash_laws.specs.Site.Places.{EachHasItsOwn, is_free}
use Rattle.flash_laws.specs.Run.{worker_domain, job_pipe}
use Rattle.flash_laws.specs.SiteContents.{SiteContents, Begins, IsAnswer}
use Rattle.flash_laws.specs.Site.{server}
use Rattle.flash_laws.specs.Site.OtherConns.{Waits, Foreign}

-- one that the server has
pub record Held (m : State) (clients : List (Option Client)) (c : ℕ) : Type 0 where
  pub fd : ℕ
  pub client : Client
  pub at : in_place clients fd ≡ Some client
  pub open_on : descriptor m server fd ≡ Some (on.Connection c)

-- a connection that the server closed, or whose peer is gone
pub record Ended (site_contents : SiteContents) (p : Past) (c : ℕ) (k : Connection) : Type 0 where
  pub closed : IsTrue k.closed
  pub begins : Begins site_contents (p.came c) (p.sent c ++ bytes_of k.outgoing)
  -- all is answered, unless the peer left
  pub whole : IsTrue (p.gone c) ⊎ IsAnswer site_contents (p.came c) (p.sent c ++ bytes_of k.outgoing)

abbrev pub Aside : SiteContents → Past → (c : ℕ) → Connection → Type 0
Aside site_contents p c k = Waits p c k ⊎ (Ended site_contents p c k ⊎ Foreign p c k)

-- a client uses this aggregate
pub record IsUsed (clients : List (Option Client)) (a : ℕ) : Type 0 where
  pub fd : ℕ
  pub client : Client
  pub at : in_place clients fd ≡ Some client
  pub uses : IsTrue (uses_agg client a)

-- each aggregate of the server is used by a client, or an external call gave it
abbrev pub AreOwned : State → Past → List (Option Client) → Type 0
AreOwned m p clients = (a : ℕ) → IsReadable m a → IsUsed clients a ⊎ IsTrue (p.given a)

-- each worker is in its own domain, and the server writes its jobs to its job pipe
pub record AreAtJobQueues (worker_set : WorkerSet) (m : State) (process_slots : List (ProcessSlot worker_set.Worker)) :
    Type 0 where
  pub in_slots : (k : ℕ) → k < worker_set.count → (process_slot : ProcessSlot worker_set.Worker)
      × (slice_get process_slots k ≡ Some process_slot)
  pub by : (k : ℕ) (process_slot : ProcessSlot worker_set.Worker) → slice_get process_slots k ≡ Some process_slot
      → (k < worker_set.count) × (process_slot.by ≡ worker_domain k)
  pub job_queues : (k : ℕ) → k < worker_set.count
      → descriptor m server (job_pipe k) ≡ Some (on.WriteEnd (worker_set.job_queue k))

module _ (site_contents : SiteContents) (worker_set : WorkerSet) where
  -- the invariant of the client at a descriptor
  pub record FitsAt (m : State) (p : Past) (fd : ℕ) (x : Client)
      (process_slots : List (ProcessSlot worker_set.Worker)) : Type 0 where
    pub conn : ℕ
    pub fits : Fits site_contents worker_set m (p.came conn) (p.sent conn) fd conn x process_slots

  -- all clients of the server, all other connections, and all workers
  pub record AllFit (m : State) (p : Past) (clients : List (Option Client))
      (process_slots : List (ProcessSlot worker_set.Worker)) : Type 0 where
    pub each : (fd : ℕ) (x : Client) → in_place clients fd ≡ Some x → FitsAt m p fd x process_slots
    pub others : (c : ℕ) → Held m clients c ⊎ Aside site_contents p c (conn_at m c)
    -- two clients share nothing
    pub aggs_apart : (fd gd a : ℕ) (x y : Client) → in_place clients fd ≡ Some x → in_place clients gd ≡ Some y
        → IsTrue (uses_agg x a) → IsTrue (uses_agg y a) → fd ≡ gd
    pub fds_apart : (fd gd g : ℕ) (x y : Client) → in_place clients fd ≡ Some x → in_place clients gd ≡ Some y
        → IsTrue (has_fd x g) → IsTrue (has_fd y g) → fd ≡ gd
    -- if the peer of an open connection is gone, it was reported as gone
    pub left : (c : ℕ) → IsFalse (conn_at m c).closed → IsTrue (is_gone (conn_at m c).peer) → IsTrue (p.gone c)
    -- a number that is still to come has no history, and no peer that left
    pub fresh : (c : ℕ) → m.next_conn ≤ c → (p.came c ≡ []) × (p.sent c ≡ []) × IsFalse (p.net c)
    pub unreported : (c : ℕ) → m.next_conn ≤ c → IsFalse (p.gone c)
    -- no worker runs two scripts, and each other worker is free
    pub own : EachHasItsOwn worker_set.count clients
    pub free : (k : ℕ) (process_slot : ProcessSlot worker_set.Worker) → slice_get process_slots k ≡ Some process_slot
        → IsTrue (is_free clients k)
        → worker_set.Free m (worker_set.job_queue k) process_slot
    pub job_queues : AreAtJobQueues worker_set m process_slots

  -- The claim: on each connection of the net, the bytes sent and those queued begin the answer to its input.
  abbrev pub AreAnswered : State → Past → Type 0
  AreAnswered m p = (c : ℕ) → IsTrue (p.net c)
      → Begins site_contents (p.came c) (p.sent c ++ bytes_of (conn_at m c).outgoing)
