-- A hosted site: set up in a new system, run over choices, and then over turns in rounds.
use Rattle.std.specs.Prelude.{◌≡◌, ℕ, List, ◌++◌, length, map, Bool, IsFalse}
use Rattle.iol_back.specs.Disk.{Disk, IfHonest}
use Rattle.iol_core.specs.State.{State}
use Rattle.iol_core.specs.declared.configuration.Config.{Config}
use Rattle.iol_core.specs.declared.events.Reply.{Reply}
use Rattle.iol_proc.specs.Idle.{Idles, rounds}
use Rattle.iol_proc.specs.Laws.{HasEvents}
use Rattle.iol_system.specs.Prelude.{slots_of}
use Rattle.iol_proc.specs.World.{WorldState, copied, copying, sharing, WorldRun, domains_of}
use Rattle.iol_proc.specs.declared.choice.Choice.{Choice}
use Rattle.iol_system.specs.Machine.{SystemState}
use Rattle.flash_cgi.specs.declared.worker.Worker.{Worker}
use Rattle.flash_laws.specs.SiteContents.{Refusals}
use Rattle.flash_laws.specs.World.Undisturbed.{AreSitePreserving}
use Rattle.flash_laws.specs.Serves.Rounds.{in_rounds}
use Rattle.flash_laws.specs.World.Consistency.{Actor, actor_turns}
use Rattle.flash_laws.specs.World.{AreFair, IsNew}
use Rattle.flash_laws.specs.World.Fair.{any_refusal, no_refusal, refusals_in}
use Rattle.flash_laws.specs.World.Host.{IsRight}
use Rattle.flash_lite.specs.WorkerSet.{worker_set_of}
use Rattle.flash_lite.specs.Library.{library_of}
use Rattle.flash_lite.specs.NewWorld.{AreInSlots}
use Rattle.flash_lite.specs.SiteState.{state_of}
use Rattle.flash_lite.specs.SiteStart.{Starts}
use Rattle.flash_lite.specs.Workers.{worker_turns}
use Rattle.flash_lite.specs.declared.site.Site.{Site}

-- The world of a site that was set up over these slots, before its first turn: it is new in the sense of the law over
-- whole worlds, whichever refusals calls may get later.
pub record IsNewWorld (s : Site) (slots : List (List ℕ)) (w : WorldState State (Actor Worker)) : Type 0 where
  pub machine : w.machine ≡ state_of s slots
  pub process_slots : AreInSlots s w.process_slots
  pub failure_free : IsFalse w.resource_failure
  pub new : (refuses : Refusals) → IsNew (library_of s slots refuses) (worker_set_of s) w

-- A site over these slots executes its choices, with these replies, and then takes at most this number of turns in
-- rounds.
pub record Hosts (s : Site) (slots : List (List ℕ)) (xs : List Choice) (rs : List Reply)
    (turns : ℕ) (idle : Bool) (after : WorldState State (Actor Worker)) : Type 0 where
  pub first : WorldState State (Actor Worker)
  pub new : IsNewWorld s slots first
  pub mid : WorldState State (Actor Worker)
  pub run : WorldRun copying (actor_turns in_rounds worker_turns) first xs rs mid
  pub ends : Idles copying (actor_turns in_rounds worker_turns) mid turns idle after

-- The same for a system with these parameters, over any store: the whole run, from the new system on, is a chain of the
-- system's steps, and a store that is honest before is honest after.
pub record HostsOver (config : Config) (store : Disk) (s : Site) (xs : List Choice) (rs : List Reply)
    (turns : ℕ) (idle : Bool) (after : WorldState SystemState (Actor Worker)) : Type 0 where
  pub first : WorldState SystemState (Actor Worker)
  pub starts : Starts config store s first
  pub mid : WorldState SystemState (Actor Worker)
  pub run : WorldRun sharing (actor_turns in_rounds worker_turns) first xs rs mid
  pub ends : Idles sharing (actor_turns in_rounds worker_turns) mid turns idle after
  pub events : HasEvents starts.begun after.machine
  pub honest : after.machine.disk.honest ≡ store.honest

-- Over an honest store, the world of a system in the copying machine is new over the store's slots before its first
-- turn.
abbrev pub IsNewIfHonest : (store : Disk) → Site → WorldState SystemState (Actor Worker) → Type 0
IsNewIfHonest store s w = IfHonest store (IsNewWorld s (slots_of store.slots) (copied w))

-- Over an honest store the site is hosted over the store's slots, and this is the system's world after it.
abbrev pub HostsIfHonest : (store : Disk) → Site → List Choice → List Reply → (turns : ℕ) → (idle : Bool)
    → (after : WorldState SystemState (Actor Worker)) → Type 0
HostsIfHonest store s xs rs turns idle after =
    IfHonest store (Hosts s (slots_of store.slots) xs rs turns idle (copied after))

module _ (s : Site) (slots : List (List ℕ)) (xs : List Choice) (rs : List Reply) (turns : ℕ) (idle : Bool)
    (after : WorldState State (Actor Worker)) (hosts : Hosts s slots xs rs turns idle after) where
  -- external calls were site-preserving
  abbrev pub PreservesSite : Type 0
  PreservesSite = AreSitePreserving (actor_turns in_rounds worker_turns) hosts.first xs rs hosts.mid hosts.run

  -- the turns among the choices, and those in rounds, were fair if these refusals are allowed
  abbrev pub HasFairTurns : (refuses : Refusals) → Type 0
  HasFairTurns refuses = AreFair refuses xs rs
      × AreFair refuses (rounds (domains_of hosts.mid.process_slots) 0 (length hosts.ends.went))
      (map (λ t. t.1) hosts.ends.went)

  -- the refusals among TooMany, NoRoom, Fault and Memory that its turns got
  abbrev pub refusals_of : Refusals
  refusals_of = refusals_in (xs ++ rounds (domains_of hosts.mid.process_slots) 0 (length hosts.ends.went)) (rs ++ map (λ t. t.1) hosts.ends.went)

  -- The whole result is right if these refusals are allowed.
  abbrev pub IsRightAfter : (refuses : Refusals) → Type 0
  IsRightAfter refuses = IsRight (worker_set_of s) (library_of s slots refuses)
      (xs ++ rounds (domains_of hosts.mid.process_slots) 0 (length hosts.ends.went))
      (rs ++ map (λ t. t.1) hosts.ends.went) idle after

  -- A hosted site is right if external calls were site-preserving.
  pub record IsRightAsHosted : Type 0 where
    -- if its turns got no other refusals
    pub fair : (refuses : Refusals) → PreservesSite → HasFairTurns refuses → IsRightAfter refuses
    -- with none, if the world's failure flag is clear
    pub failure_free : PreservesSite → IsFalse after.resource_failure → IsRightAfter no_refusal
    -- with those that the turns of the server and the workers got, whatever was refused
    pub own : PreservesSite → IsRightAfter refusals_of
    -- with TooMany, NoRoom, Fault and Memory, whatever was refused
    pub any : PreservesSite → IsRightAfter any_refusal

abbrev pub HostedIsRight : Type 0
HostedIsRight = (s : Site) (slots : List (List ℕ)) (xs : List Choice) (rs : List Reply) (turns : ℕ)
    (idle : Bool) (after : WorldState State (Actor Worker)) (hosts : Hosts s slots xs rs turns idle after)
    → IsRightAsHosted s slots xs rs turns idle after hosts
