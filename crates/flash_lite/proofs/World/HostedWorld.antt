-- A new world of a site's processes is that of the site, and its run is hosted.
use Rattle.std.proofs.Common.{◌≡◌, ℕ, List, map, ap, subst, ◌∙◌, IsPermutation, Bool, false}
use Rattle.std.specs.List.Sorted.{IsStrictlyIncreasing}
use Rattle.iol_core.specs.Positions.{ArePlaced}
use Rattle.iol_core.specs.State.{State, new_state}
use Rattle.iol_core.specs.declared.events.Reply.{Reply}
use Rattle.iol_proc.specs.Idle.{Idles}
use Rattle.iol_proc.specs.World.{WorldState, copied, copying, domains_of, process_slot_of, WorldRun}
use Rattle.iol_proc.specs.declared.choice.Choice.{Choice}
use Rattle.iol_system.specs.Machine.{SystemState, machine_of}
use Rattle.flash_cgi.specs.declared.worker.Worker.{Worker}
use Rattle.flash_laws.specs.Serves.Rounds.{in_rounds}
use Rattle.flash_laws.specs.World.Consistency.{Actor, actor_turns}
use Rattle.flash_lite.specs.HostedSite.{Hosts, IsNewWorld}
use Rattle.flash_lite.specs.Setup.{AreActors}
use Rattle.flash_lite.specs.SiteState.{LeavesSite, state_of}
use Rattle.flash_lite.specs.SiteWorld.{IsNewAt}
use Rattle.flash_lite.specs.Workers.{worker_turns}
use Rattle.flash_lite.specs.declared.site.Site.{Site}
use Rattle.flash_lite.proofs.World.ProcessSlots.{in_slots_by}

pub world_new : (s : Site) (slots : List (List ℕ)) (old sys : SystemState) (w : WorldState SystemState (Actor Worker))
    (ps : List (ℕ × Actor Worker)) → machine_of old ≡ new_state slots → ArePlaced (machine_of old)
    → LeavesSite s (machine_of old) (machine_of sys)
    → (machine_of sys).slots ≡ (machine_of old).slots
    → IsNewAt s (machine_of old) (machine_of sys)
    → AreActors s ps → w.machine ≡ sys → IsPermutation (map process_slot_of ps) w.process_slots
    → IsStrictlyIncreasing (domains_of w.process_slots) → w.resource_failure ≡ false
    → IsNewWorld s slots (copied w)
world_new s slots old sys w ps begins placed leaves same new procs machine process_slots rises failure_free =
    let buffered : (machine_of sys).slots ≡ slots = same ∙ ap (λ (m : State). m.slots) begins in
    let is : machine_of w.machine ≡ machine_of sys = ap (λ (x : SystemState). machine_of x) machine in
    let in_slots = in_slots_by s ps w.process_slots procs process_slots rises in record {
      machine = is ∙ ((leaves slots begins).state ∙ ap (λ (l : List (List ℕ)). state_of s l) buffered);
      process_slots = in_slots;
      failure_free = failure_free;
      new =
          λ refuses. new (copied w) is in_slots slots refuses begins
          (subst (λ (m : State). ArePlaced m) begins placed).slots;
    }

pub hosted : (s : Site) (slots : List (List ℕ)) (xs : List Choice) (rs : List Reply) (turns : ℕ) (idle : Bool)
    (w mid after : WorldState State (Actor Worker)) → IsNewWorld s slots w
    → WorldRun copying (actor_turns in_rounds worker_turns) w xs rs mid
    → Idles copying (actor_turns in_rounds worker_turns) mid turns idle after
    → Hosts s slots xs rs turns idle after
hosted s slots xs rs turns idle w mid after new run ends =
    record { first = w; new = new; mid = mid; run = run; ends = ends }
