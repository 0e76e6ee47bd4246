-- The start of the world of a site over any store, the reasons for its refusal, and its run as a chain of the system's
-- steps.
use Rattle.std.proofs.Common.{◌≡◌, ◌∙◌, inl, inr, ℕ, List, [], ◌∷◌, ◌++◌, map, sym, ap, subst, Bool, false}
use Rattle.std.proofs.Common.{IsPermutation}
use Rattle.std.specs.Prelude.{◌*◌, replicate}
use Rattle.std.specs.List.Sorted.{IsStrictlyIncreasing}
use Rattle.iol_back.specs.Disk.{Disk}
use Rattle.iol_core.specs.declared.configuration.Config.{Config}
use Rattle.iol_core.specs.declared.events.Event.{Event}
use Rattle.iol_core.specs.declared.events.Reply.{Reply}
use Rattle.iol_core.specs.State.{new_state}
use Rattle.iol_core.specs.declared.limits.TheConstants.{CHUNK_PAGES}
use Rattle.iol_core.specs.declared.refusals.Refusal.{Refusal}
use Rattle.iol_system.specs.Prelude.{no_entry, slots_of}
use Rattle.iol_proc.specs.Idle.{Idles}
use Rattle.iol_proc.specs.Laws.{HasEvents}
use Rattle.iol_proc.specs.World.{WorldState, domains_of, sharing, process_slot_of, WorldRun}
use Rattle.iol_proc.specs.declared.choice.Choice.{Choice}
use Rattle.iol_proc.proofs.Chains.{honesty_kept}
use Rattle.iol_system.specs.Machine.{SystemState, machine_of}
use Rattle.iol_system.specs.Promises.{Chain}
use Rattle.iol_system.specs.Safe.{IsSafe}
use Rattle.flash_cgi.specs.declared.worker.Worker.{Worker}
use Rattle.flash_laws.specs.Serves.Rounds.{in_rounds}
use Rattle.flash_laws.specs.World.Consistency.{Actor, actor_turns}
use Rattle.flash_lite.specs.HostedSite.{HostsOver}
use Rattle.flash_lite.specs.Setup.{AreActors, IsMade, WhyRefused, calls}
use Rattle.flash_lite.specs.SiteState.{IsSetUp, LeavesSite}
use Rattle.flash_lite.specs.SiteStart.{IsNewSystem, Starts, WhyNone}
use Rattle.flash_lite.specs.Workers.{worker_turns}
use Rattle.flash_lite.specs.declared.site.Site.{Site}
use Rattle.flash_lite.proofs.World.ProcessSlots.{in_slots_by}

-- ---- a new system

pub begun_by : (config : Config) (store : Disk) (s : SystemState) → machine_of s ≡ new_state (slots_of s.disk.slots)
    → s.disk ≡ store
    → s.kernel.store.arena.entries ≡ replicate (config.chunks * CHUNK_PAGES) no_entry
    → s.kernel.store.arena.taken ≡ replicate config.chunks false → s.kernel.store.arena.limit ≡ config.gen_limit
    → s.kernel.sums.entries ≡ [] → s.kernel.sums.limit ≡ config.sums → s.kernel.cache.orders ≡ [] → IsSafe s
    → IsNewSystem config store s
begun_by config store s machine disk entries taken limit sums sum_limit orders safe = record {
  machine = machine ∙ ap (λ (d : Disk). new_state (slots_of d.slots)) disk;
  disk = disk;
  entries = entries;
  taken = taken;
  limit = limit;
  sums = sums;
  sum_limit = sum_limit;
  orders = orders;
  safe = safe;
}

-- ---- a world that starts

pub starts_by : (config : Config) (store : Disk) (s : Site) (begun sys : SystemState)
    (w : WorldState SystemState (Actor Worker))
    (ps : List (ℕ × Actor Worker)) → IsNewSystem config store begun → IsMade s begun sys
    → LeavesSite s (machine_of begun) (machine_of sys) → AreActors s ps → w.machine ≡ sys
    → IsPermutation (map process_slot_of ps) w.process_slots → IsStrictlyIncreasing (domains_of w.process_slots)
    → w.resource_failure ≡ false → Starts config store s w
starts_by config store s begun sys w ps new made leaves procs machine process_slots rises failure_free = record {
  begun = begun;
  new = new;
  made = subst (λ (x : SystemState). IsMade s begun x) (sym machine) made;
  site =
      subst (λ (x : SystemState). IsSetUp s (machine_of x)) (sym machine) (leaves (slots_of store.slots) new.machine);
  process_slots = in_slots_by s ps w.process_slots procs process_slots rises;
  failure_free = failure_free;
}

-- ---- no world starts, since a call of the setup was refused

pub none_of_setup : (config : Config) (store : Disk) (s : Site) (x : Refusal) (begun after : SystemState)
    → IsNewSystem config store begun
    → WhyRefused s x begun after → WhyNone config store s x
none_of_setup config store s x begun after new why = elim why [
  | inl memory ↦ inr (inl memory.0)
  | inr refused ↦ inr (inr (record { begun = begun; after = after; new = new; refused = refused }))
]

-- ---- its run

chain_on : (old mid new : SystemState) (es fs : List Event) (rs ss : List Reply) → Chain old es rs mid
    → Chain mid fs ss new → Chain old (es ++ fs) (rs ++ ss) new
chain_on old mid new [] fs [] ss first next = subst (λ (h : SystemState). Chain h fs ss new) first next
chain_on old mid new (e ∷ es) fs (r ∷ rs) ss first next =
    (first.0, first.1, chain_on first.0 mid new es fs rs ss first.2 next)
chain_on old mid new [] fs (r ∷ rs) ss first next = absurd first
chain_on old mid new (e ∷ es) fs [] ss first next = absurd first

joined : (old mid new : SystemState) → HasEvents old mid → HasEvents mid new → HasEvents old new
joined old mid new a b = record {
  events = a.events ++ b.events;
  replies = a.replies ++ b.replies;
  chain = chain_on old mid new a.events b.events a.replies b.replies a.chain b.chain;
}

made_events : (s : Site) (old new : SystemState) → IsMade s old new → HasEvents old new
made_events s old new made = record { events = calls s; replies = made.replies; chain = made.chain }

pub hosted_over : (config : Config) (store : Disk) (s : Site) (xs : List Choice) (rs : List Reply) (turns : ℕ)
    (idle : Bool)
    (first mid after : WorldState SystemState (Actor Worker)) → Starts config store s first
    → WorldRun sharing (actor_turns in_rounds worker_turns) first xs rs mid → HasEvents first.machine mid.machine
    → Idles sharing (actor_turns in_rounds worker_turns) mid turns idle after → HasEvents mid.machine after.machine
    → HostsOver config store s xs rs turns idle after
hosted_over config store s xs rs turns idle first mid after starts run ran ends went =
    let events : HasEvents starts.begun after.machine =
    joined starts.begun first.machine after.machine (made_events s starts.begun first.machine starts.made)
    (joined first.machine mid.machine after.machine ran went) in record {
      first = first;
      starts = starts;
      mid = mid;
      run = run;
      ends = ends;
      events = events;
      honest = (honesty_kept starts.begun after.machine events).same ∙ ap (λ (d : Disk). d.honest) starts.new.disk;
    }
