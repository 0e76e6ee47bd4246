use Rattle.std.proofs.Common.{ℕ, List, [], Bool}
use Rattle.iol_core.specs.State.{State}
use Rattle.iol_core.specs.declared.events.Reply.{Reply}
use Rattle.iol_proc.specs.World.{WorldState, domains_of}
use Rattle.iol_proc.specs.declared.choice.Choice.{Choice}
use Rattle.flash_cgi.specs.declared.worker.Worker.{Worker}
use Rattle.flash_laws.specs.SiteContents.{Refusals}
use Rattle.flash_laws.specs.Serves.Rounds.{in_rounds}
use Rattle.flash_laws.specs.World.Consistency.{Actor, actor_turns}
use Rattle.flash_laws.specs.World.Fair.{any_refusal, no_refusal}
use Rattle.flash_lite.specs.WorkerSet.{worker_set_of}
use Rattle.flash_lite.specs.Harmless.{HarmlessIsSitePreserving, IsRightNow}
use Rattle.flash_lite.specs.HostedSite.{Hosts, IsRightAfter, refusals_of}
use Rattle.flash_lite.specs.Library.{library_of}
use Rattle.flash_lite.specs.Workers.{worker_turns}
use Rattle.flash_lite.specs.declared.site.Site.{Site}
use Rattle.flash_lite.proofs.World.FairTurns.{any-turns, own-turns, failure_free-turns}
use Rattle.flash_lite.proofs.World.Harmless.{all-site_preserving, right-before, run-even}
use Rattle.flash_lite.proofs.laws.harmless_is_right.Goals as goal

are-site_preserving : goal.After-runs_are_fair → HarmlessIsSitePreserving
are-site_preserving c s slots xs rs turns idle after hosts refuses harmless fair =
    all-site_preserving (library_of s slots refuses) (worker_set_of s) c.site_law.ensures
    (c.connections_do_not_meet.ensures.step s) [] xs [] rs hosts.first hosts.mid hosts.run
    (c.connections_do_not_meet.ensures.first s (library_of s slots refuses) hosts.first (hosts.new.new refuses)) fair
    harmless

before : (s : Site) (slots : List (List ℕ)) (xs : List Choice) (rs : List Reply) (turns : ℕ) (idle : Bool)
    (after : WorldState State (Actor Worker))
    (hosts : Hosts s slots xs rs turns idle after) (refuses : Refusals)
    → IsRightAfter s slots xs rs turns idle after hosts refuses
    → IsRightNow s slots xs rs turns idle after hosts refuses
before s slots xs rs turns idle after hosts refuses right =
    right-before (library_of s slots refuses) (worker_set_of s) (domains_of hosts.mid.process_slots) xs rs
    hosts.ends.went idle after
    (run-even (actor_turns in_rounds worker_turns) xs rs hosts.first hosts.mid hosts.run) right

pub returns-clause-site_preserving : goal.returns-clause-site_preserving
returns-clause-site_preserving c = are-site_preserving c

pub returns-clause-right : goal.returns-clause-right
returns-clause-right c = λ s slots xs rs turns idle after hosts.
    let hosted = c.hosted_is_right.ensures s slots xs rs turns idle after hosts in record {
      fair = λ refuses harmless fair. before s slots xs rs turns idle after hosts refuses
          (hosted.fair refuses (are-site_preserving c s slots xs rs turns idle after hosts refuses harmless fair.0)
          fair);
      failure_free = λ harmless failure_free.
          let fair = failure_free-turns s slots xs rs turns idle after hosts c.runs_are_fair.ensures.failure_free
          c.failure_free_runs.ensures failure_free in
          before s slots xs rs turns idle after hosts no_refusal
          (hosted.failure_free (are-site_preserving c s slots xs rs turns idle after hosts no_refusal harmless fair.0)
          failure_free);
      own = λ harmless.
          let refuses = refusals_of s slots xs rs turns idle after hosts in
          let fair = own-turns s slots xs rs turns idle after hosts c.runs_are_fair.ensures.own in
          before s slots xs rs turns idle after hosts refuses
          (hosted.own (are-site_preserving c s slots xs rs turns idle after hosts refuses harmless fair.0));
      any = λ harmless.
          let fair = any-turns s slots xs rs turns idle after hosts c.runs_are_fair.ensures.any in
          before s slots xs rs turns idle after hosts any_refusal
          (hosted.any (are-site_preserving c s slots xs rs turns idle after hosts any_refusal harmless fair.0));
    }
