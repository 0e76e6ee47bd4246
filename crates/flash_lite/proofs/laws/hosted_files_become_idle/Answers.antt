use Rattle.std.proofs.Common.{◌≡◌, ℕ, List, ◌++◌, length, map, true, Bool}
use Rattle.iol_core.specs.State.{State}
use Rattle.iol_core.specs.declared.events.Reply.{Reply}
use Rattle.iol_proc.specs.Idle.{rounds}
use Rattle.iol_proc.specs.World.{WorldState, domains_of}
use Rattle.iol_proc.specs.declared.choice.Choice.{Choice}
use Rattle.flash_cgi.specs.declared.worker.Worker.{Worker}
use Rattle.flash_laws.specs.SiteContents.{Refusals}
use Rattle.flash_laws.specs.World.Fair.{any_refusal}
use Rattle.flash_laws.specs.World.Consistency.{Actor}
use Rattle.flash_progress.specs.Served.{AreServed}
use Rattle.flash_lite.specs.WorkerSet.{worker_set_of, is_shown, is_work}
use Rattle.flash_lite.specs.HostedFiles.{IsHostedLongEnough}
use Rattle.flash_lite.specs.HostedSite.{HasFairTurns, Hosts}
use Rattle.flash_lite.specs.Library.{library_of}
use Rattle.flash_lite.specs.Setup.{workers_used}
use Rattle.flash_lite.specs.declared.site.Site.{Site}
use Rattle.flash_lite.proofs.World.FairTurns.{any-turns}
use Rattle.flash_lite.proofs.World.SiteWorld.{job_queues_apart}
use Rattle.flash_lite.proofs.laws.hosted_files_become_idle.Goals as goal

module _ (c : goal.After-runs_are_fair) (s : Site) (slots : List (List ℕ)) (xs : List Choice) (rs : List Reply)
    (turns : ℕ) (idle : Bool)
    (after : WorldState State (Actor Worker)) (hosts : Hosts s slots xs rs turns idle after)
    (has : IsHostedLongEnough s slots xs rs turns idle after hosts) where
  with-these : (refuses : Refusals) → HasFairTurns s slots xs rs turns idle after hosts refuses
      → (idle ≡ true) × AreServed (worker_set_of s) (library_of s slots refuses)
      (xs ++ rounds (domains_of hosts.mid.process_slots) 0 (length hosts.ends.went))
      (rs ++ map (λ t. t.1) hosts.ends.went) after
  with-these refuses fair =
      c.file_server_becomes_idle.ensures.hosted (workers_used s) (λ k. k) is_shown is_work (job_queues_apart s)
      (library_of s slots refuses) xs rs hosts.first hosts.mid turns idle after
      (record {
        files = has.files;
        new = hosts.new.new refuses;
        run = hosts.run;
        site_preserving = has.site_preserving;
        places = has.places;
        ends = hosts.ends;
        lacks_none = has.lacks_none;
        fair = fair.0;
        fair_rounds = fair.1;
        suffices = has.suffices;
      })

pub returns : goal.returns
returns c = λ s slots xs rs turns idle after hosts has. (
  (with-these c s slots xs rs turns idle after hosts has any_refusal
      (any-turns s slots xs rs turns idle after hosts c.runs_are_fair.ensures.any)).0,
  λ refuses fair. (with-these c s slots xs rs turns idle after hosts has refuses fair).1,
)
