-- Progress of a server of files: if the number of turns suffices, all become idle, and then each request that arrived
-- has its response, with the exceptions in `IsServed`.
use Rattle.std.specs.Prelude.{◌≡◌, ◌≤◌, ◌⊎◌, ℕ, Bool, true, false, List, [], ◌∷◌, ◌++◌, length, map, Option, Some}
use Rattle.std.specs.List.{AllByRecursion}
use Rattle.std.specs.Prelude.{IsTrue, IsFalse}
use Rattle.iol_core.specs.Text.{bytes_of}
use Rattle.iol_core.specs.State.{State, domain, pool, descriptor, may_read, conn_at, new_state}
use Rattle.iol_core.specs.Run.{Run, StepsTo}
use Rattle.iol_core.specs.declared.descriptors.Descriptor.TheVariants as on
use Rattle.iol_core.specs.declared.events.Event.{Event}
use Rattle.iol_core.specs.declared.events.Reply.{Reply}
use Rattle.iol_core.specs.declared.events.Reply.TheVariants as reply
use Rattle.iol_core.specs.declared.refusals.Refusal.TheVariants.{TooMany, NoRoom, Memory}
use Rattle.iol_laws.specs.Labels.{AreInOwnPool}
use Rattle.iol_laws.specs.Order.{IsOrderly}
use Rattle.iol_proc.specs.Idle.{Idles, Went, rounds}
use Rattle.iol_proc.specs.ReadableBytes.{readable_to}
use Rattle.iol_proc.specs.World.{WorldState, copying, domains_of}
use Rattle.iol_proc.specs.declared.choice.Choice.{Choice}
use Rattle.iol_proc.specs.declared.process_slot.ProcessSlot.{ProcessSlot}
use Rattle.flash_laws.specs.Client.{Client}
use Rattle.flash_laws.specs.Serves.{filed_in}
use Rattle.flash_laws.specs.Serves.Rounds.{in_rounds}
use Rattle.flash_laws.specs.SiteContents.{SiteContents, IsAnswer}
use Rattle.flash_laws.specs.Site.{server}
use Rattle.flash_laws.specs.Site.Past.{Past}
use Rattle.flash_laws.specs.Workers.WorkerSet.{WorkerSet}
use Rattle.flash_laws.specs.World.{AreFair, Consistent}
use Rattle.flash_laws.specs.World.Done.{IsHeldUp}
use Rattle.flash_laws.specs.World.Remains.{IsFull}
use Rattle.flash_laws.specs.World.Consistency.{Actor, Serving, Working, actor_turns, past_of}
use Rattle.flash_progress.specs.Bound.{turns_that_suffice}

-- ---- the premises

-- whether a call is refused for lack of table entries, pages or memory, not for a fault of the store
abbrev pub lacks_resource : Reply → Bool
lacks_resource (reply.Refused TooMany) = true
lacks_resource (reply.Refused (NoRoom p)) = true
lacks_resource (reply.Refused Memory) = true
lacks_resource r = false

-- no turn is refused for lack of a resource
abbrev pub NoneLacksResource : List Went → Type 0
NoneLacksResource turns = AllByRecursion (λ t. IsFalse (lacks_resource t.1)) turns

-- the clients of the first process, if it is the server, after its last reply is processed
abbrev pub clients_of : {W : Type 0} → State → Reply → Actor W → List (Option Client)
clients_of m last (Serving s) = filed_in s last (λ a. readable_to m server a)
clients_of m last (Working v) = []

abbrev pub clients_by : {W : Type 0} → State → List (ProcessSlot (Actor W)) → List (Option Client)
clients_by m [] = []
clients_by {W = W} m (process_slot ∷ process_slots) = clients_of {W = W} m process_slot.last process_slot.process

abbrev pub clients_in : {W : Type 0} → WorldState State (Actor W) → List (Option Client)
clients_in {W = W} w = clients_by {W = W} w.machine w.process_slots

-- each domain may read the pools of the connections that it has open
abbrev pub MayReadConns : State → Type 0
MayReadConns m = (d fd c : ℕ) → descriptor m d fd ≡ Some (on.Connection c) → IsTrue (may_read m d (conn_at m c).pool)

-- The unread bytes of each connection are in its pool, and a domain that has it open may read this pool. This holds in
-- each reachable state (`ArrivalsCanBeRead`).
pub record CanRead (m : State) : Type 0 where
  pub home : AreInOwnPool m
  pub holders : MayReadConns m

-- The server has a default pool, and it is open, so the server can make the heads of responses.
pub record CanPlace (m : State) : Type 0 where
  pub place : ℕ
  pub default : (domain m server).default ≡ Some place
  pub open_yet : IsFalse (pool m place).closed

-- ---- consequences

-- A connection is served: all requests that arrived on it have their responses, or its peer left, or its queue is full,
-- or it is not accepted and the server has the maximum number of connections.
abbrev pub IsServed : SiteContents → State → Past → List (Option Client) → (c : ℕ) → Type 0
IsServed site_contents m p clients c = IsAnswer site_contents (p.came c) (p.sent c ++ bytes_of (conn_at m c).outgoing)
    ⊎ IsTrue (p.gone c) ⊎ IsHeldUp m c ⊎ (IsFalse (conn_at m c).accepted × IsFull m clients)

module _ (worker_set : WorkerSet) where
  -- A world of files with the invariant takes turns in rounds, at most `most`. Before them calls may have been refused
  -- as the site contents permit. None of them is refused for lack of table entries, pages or memory, or with a fault
  -- that the site contents do not permit, and `most` suffices for the state in which they begin.
  pub record RunsLongEnough (site_contents : SiteContents) (xs : List Choice) (rs : List Reply)
      (w : WorldState State (Actor worker_set.Worker)) (most : ℕ)
      (idle : Bool) (after : WorldState State (Actor worker_set.Worker)) : Type 0 where
    pub files : worker_set.count ≡ 0
    pub consistent : Consistent site_contents worker_set xs rs w
    pub reads : CanRead w.machine
    pub places : CanPlace w.machine
    pub ends : Idles copying (actor_turns in_rounds worker_set.turns) w most idle after
    pub lacks_none : NoneLacksResource ends.went
    pub fair : AreFair site_contents.refuses (rounds (domains_of w.process_slots) 0 (length ends.went)) (map (λ t. t.1) ends.went)
    pub suffices : turns_that_suffice w.machine (clients_in w) ≤ most

  -- All become idle.
  abbrev pub BecomesIdle : Type 0
  BecomesIdle =
      (site_contents : SiteContents) (xs : List Choice) (rs : List Reply)
      (w : WorldState State (Actor worker_set.Worker))
      (most : ℕ)
      (idle : Bool) (after : WorldState State (Actor worker_set.Worker))
      → RunsLongEnough site_contents xs rs w most idle after → IsTrue idle

  -- The world has the invariant, and each connection of the net is served.
  pub record AreServed (site_contents : SiteContents) (xs : List Choice) (rs : List Reply)
      (after : WorldState State (Actor worker_set.Worker)) : Type 0 where
    pub consistent : Consistent site_contents worker_set xs rs after
    pub each : (c : ℕ) → IsTrue ((past_of xs rs).net c)
        → IsServed site_contents after.machine (past_of xs rs) consistent.in_slots.state.clients c

  abbrev pub ServesAll : Type 0
  ServesAll =
      (site_contents : SiteContents) (xs : List Choice) (rs : List Reply)
      (w : WorldState State (Actor worker_set.Worker))
      (most : ℕ)
      (idle : Bool) (after : WorldState State (Actor worker_set.Worker))
      → (has : RunsLongEnough site_contents xs rs w most idle after)
      → AreServed site_contents (xs ++ rounds (domains_of w.process_slots) 0 (length has.ends.went))
      (rs ++ map (λ t. t.1) has.ends.went) after

-- Arrivals can be read in a new state, after each event, and so in each reachable state.
pub record ArrivalsCanBeRead : Type 0 where
  pub new : (slots : List (List ℕ)) → CanRead (new_state slots)
  pub step : (s t : State) (e : Event) (r : Reply) → IsOrderly s → CanRead s → StepsTo s e r t → CanRead t
  pub reached : (slots : List (List ℕ)) (t : State) (es : List Event) (rs : List Reply) → Run (new_state slots) es rs t
      → CanRead t
