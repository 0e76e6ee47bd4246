-- The invariant of a world: the server in domain 1, its workers in their domains, and all connections, by the history
-- of choices and replies.
pub mod Undisturbed
pub mod Consistency
pub mod Idle
pub mod Quiesces
pub mod Remains
pub mod Done
pub mod Fair
pub mod Host
use Rattle.std.specs.Prelude.{◌≡◌, ◌==◌, Bool, ◌<◌, ℕ, List, [], ◌∷◌, ◌++◌, length, map, Some, None}
use Rattle.std.specs.Prelude.{slice_get, if◌then◌else◌, IsTrue, IsFalse, ⊤}
use Rattle.iol_core.specs.Text.{bytes_of}
use Rattle.iol_core.specs.State.{State, conn_at, no_conn}
use Rattle.iol_core.specs.declared.events.Reply.{Reply}
use Rattle.iol_core.specs.declared.events.Reply.TheVariants as reply
use Rattle.iol_laws.specs.Caller.{readable_at}
use Rattle.iol_laws.specs.Order.{IsOrderly}
use Rattle.iol_proc.specs.Histories.{stream_over, sent_over}
use Rattle.iol_proc.specs.FailureFree.{AreFailureFree}
use Rattle.iol_proc.specs.World.{WorldState, copying, WorldStep, WorldRun}
use Rattle.iol_proc.specs.declared.choice.Choice.{Choice}
use Rattle.iol_proc.specs.declared.process_slot.ProcessSlot.{ProcessSlot}
use Rattle.flash_laws.specs.World.Undisturbed.{IsSitePreserving, AreSitePreserving}
use Rattle.flash_laws.specs.Workers.WorkerSet.{WorkerSet, IsFixedFor}
use Rattle.flash_laws.specs.Conn.Fits.{Names}
use Rattle.flash_laws.specs.Site.Past.{Past}
use Rattle.flash_laws.specs.Site.Places.{filed}
use Rattle.flash_laws.specs.Serves.Rounds.{in_rounds}
use Rattle.flash_laws.specs.Site.ClientConsistency.{AreAtJobQueues, AllFit, AreOwned}
use Rattle.flash_laws.specs.Serves.{Server, new_server, Policy}
use Rattle.flash_laws.specs.SiteContents.{SiteContents, Refusals, Begins, IsAnswer, IsAmong}
use Rattle.iol_core.specs.declared.refusals.Refusal.{Refusal}
use Rattle.iol_proc.specs.declared.choice.Choice.TheVariants as choice
use Rattle.flash_laws.specs.Site.{server}
use Rattle.flash_laws.specs.World.Consistency.{past_of, made_over, gone_over, Actor, Serving, Working, actor_turns}

-- a worker at its process slot, as a process of the world
abbrev pub as_actor : {W : Type 0} → ProcessSlot W → ProcessSlot (Actor W)
as_actor process_slot = record {
  by = process_slot.by;
  process = Working process_slot.process;
  last = process_slot.last;
}

-- the server has the first process slot, and each worker one after it
abbrev pub process_slots_of : {W : Type 0} → Server → (last : Reply) → List (ProcessSlot W)
    → List (ProcessSlot (Actor W))
process_slots_of s last workers = record { by = server; process = Serving s; last = last }
    ∷ map (λ w. as_actor w) workers

-- a server with this number of workers, and nothing else
abbrev pub server_with : (workers : ℕ) → Server
server_with workers = record new_server { workers = workers }

module _ (site_contents : SiteContents) (worker_set : WorkerSet) where
  -- Between two turns of the server all clients have their invariants, and it has only the aggregates that its clients
  -- use or that external calls gave it; the reply to the pending call counts as processed.
  pub record IsServing (m : State) (p : Past) (s : Server) (last : Reply)
      (process_slots : List (ProcessSlot worker_set.Worker)) : Type 0 where
    pub count : s.workers ≡ worker_set.count
    pub received : List ℕ
    pub names : Names m last received
    pub fit : AllFit site_contents worker_set m p (filed s.workers s.clients s.pending_call last received) process_slots
    pub owned : AreOwned m p (filed s.workers s.clients s.pending_call last received)

  pub record AreInSlots (w : WorldState State (Actor worker_set.Worker)) (p : Past) : Type 0 where
    pub state : Server
    pub last : Reply
    pub workers : List (ProcessSlot worker_set.Worker)
    pub process_slots : w.process_slots ≡ process_slots_of state last workers
    pub serves : IsServing w.machine p state last workers

  -- The invariant of a world, by the choices that were made and their replies.
  pub record Consistent (choices : List Choice) (replies : List Reply)
      (w : WorldState State (Actor worker_set.Worker)) :
      Type 0 where
    pub even : length choices ≡ length replies
    pub order : IsOrderly w.machine
    pub fixed : IsFixedFor site_contents worker_set w.machine
    pub in_slots : AreInSlots w (past_of choices replies)

  -- A new world: the server has nothing, including aggregates, each worker is free, and there are no connections.
  pub record IsNew (w : WorldState State (Actor worker_set.Worker)) : Type 0 where
    pub order : IsOrderly w.machine
    pub fixed : IsFixedFor site_contents worker_set w.machine
    pub workers : List (ProcessSlot worker_set.Worker)
    pub process_slots : w.process_slots ≡ process_slots_of (server_with worker_set.count) reply.Done workers
    pub job_queues : AreAtJobQueues worker_set w.machine workers
    pub free : (k : ℕ) (process_slot : ProcessSlot worker_set.Worker) → slice_get workers k ≡ Some process_slot
        → worker_set.Free w.machine (worker_set.job_queue k) process_slot
    pub no_aggs : (a : ℕ) → readable_at w.machine server a ≡ None
    pub no_conns : (c : ℕ) → conn_at w.machine c ≡ no_conn

-- The bytes sent and queued on each connection of the net begin an answer to its input.
abbrev pub AllAnswered : SiteContents → List Choice → List Reply → State → Type 0
AllAnswered site_contents xs rs m = (c : ℕ) → IsTrue (made_over c xs rs)
    → Begins site_contents (stream_over c xs rs) (sent_over c xs rs ++ bytes_of (conn_at m c).outgoing)

-- Each closed connection of the net whose peer did not leave has its whole answer: the bytes sent and queued are an
-- answer to its input.
abbrev pub ClosedAreWhole : SiteContents → List Choice → List Reply → State → Type 0
ClosedAreWhole site_contents xs rs m = (c : ℕ) → IsTrue (made_over c xs rs) → IsTrue (conn_at m c).closed
    → IsFalse (gone_over c xs rs)
    → IsAnswer site_contents (stream_over c xs rs) (sent_over c xs rs ++ bytes_of (conn_at m c).outgoing)

-- the refusals that a turn of this domain may get
abbrev pub may_refuse : Refusals → (by : ℕ) → Refusal → Bool
may_refuse refuses by = if by == server then refuses.of_server else refuses.of_workers

-- Each turn of these choices is fair: if its reply is TooMany, NoRoom, Fault or Memory, it is one of the refusals that
-- it may get.
abbrev pub AreFair : Refusals → List Choice → List Reply → Type 0
AreFair refuses (choice.Turn by ∷ xs) (r ∷ rs) = IsAmong (may_refuse refuses by) r × AreFair refuses xs rs
AreFair refuses (choice.Outside e ∷ xs) (r ∷ rs) = AreFair refuses xs rs
AreFair refuses xs rs = ⊤

-- job pipes are distinct
abbrev pub JobQueuesAreApart : WorkerSet → Type 0
JobQueuesAreApart worker_set = (k l : ℕ) → k < worker_set.count → l < worker_set.count
    → worker_set.job_queue k ≡ worker_set.job_queue l → k ≡ l

module _ (worker_set : WorkerSet) where
  -- A new world has the invariant.
  abbrev pub ConsistentAtFirst : Type 0
  ConsistentAtFirst = (site_contents : SiteContents) (w : WorldState State (Actor worker_set.Worker))
      → IsNew site_contents worker_set w → Consistent site_contents worker_set [] [] w

  -- In a world with the invariant, the output of each connection of the net begins its answer, and is all of it if the
  -- connection is closed, unless its peer left.
  abbrev pub ConsistentIsAnswered : Type 0
  ConsistentIsAnswered =
      (site_contents : SiteContents) (xs : List Choice) (rs : List Reply)
      (w : WorldState State (Actor worker_set.Worker))
      → Consistent site_contents worker_set xs rs w → AllAnswered site_contents xs rs w.machine

  abbrev pub ConsistentIsWhole : Type 0
  ConsistentIsWhole =
      (site_contents : SiteContents) (xs : List Choice) (rs : List Reply)
      (w : WorldState State (Actor worker_set.Worker))
      → Consistent site_contents worker_set xs rs w → ClosedAreWhole site_contents xs rs w.machine

module _ (may : Policy) (worker_set : WorkerSet) where
  -- Each step that is site-preserving, and fair if it is a turn, preserves the invariant.
  abbrev pub StepKeepsConsistency : Type 0
  StepKeepsConsistency = (site_contents : SiteContents) (xs : List Choice) (rs : List Reply) (x : Choice) (r : Reply)
      (w after : WorldState State (Actor worker_set.Worker))
      → WorldStep copying (actor_turns may worker_set.turns) w x r after
      → IsSitePreserving w x after → AreFair site_contents.refuses (x ∷ []) (r ∷ [])
      → Consistent site_contents worker_set xs rs w
      → Consistent site_contents worker_set (xs ++ x ∷ []) (rs ++ r ∷ []) after

  -- The same for a run of such steps.
  abbrev pub RunKeepsConsistency : Type 0
  RunKeepsConsistency =
      (site_contents : SiteContents) (past xs : List Choice) (ps rs : List Reply)
      (w after : WorldState State (Actor worker_set.Worker))
      → (run : WorldRun copying (actor_turns may worker_set.turns) w xs rs after)
      → AreSitePreserving (actor_turns may worker_set.turns) w xs rs after run
      → AreFair site_contents.refuses xs rs → Consistent site_contents worker_set past ps w
      → Consistent site_contents worker_set (past ++ xs) (ps ++ rs) after

-- The premises can be met: there are files, a new world with them, and an undisturbed run of it in which a connection
-- of the net is created and accepted.
pub record ARunIsUndisturbed (worker_set : WorkerSet) : Type 0 where
  pub site_contents : SiteContents
  pub first : WorldState State (Actor worker_set.Worker)
  pub after : WorldState State (Actor worker_set.Worker)
  pub choices : List Choice
  pub replies : List Reply
  pub is_new : IsNew site_contents worker_set first
  pub run : WorldRun copying (actor_turns in_rounds worker_set.turns) first choices replies after
  pub site_preserving : AreSitePreserving (actor_turns in_rounds worker_set.turns) first choices replies after run
  pub failure_free : AreFailureFree choices replies
  pub conn : ℕ
  pub comes : IsTrue (made_over conn choices replies)
  pub taken : IsTrue (conn_at after.machine conn).accepted
  pub open_yet : IsFalse (conn_at after.machine conn).closed
