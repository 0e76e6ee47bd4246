use Rattle.std.proofs.Common.{ℕ, List, Bool}
use Rattle.iol_core.specs.State.{State}
use Rattle.iol_core.specs.declared.events.Reply.{Reply}
use Rattle.iol_proc.specs.World.{WorldState}
use Rattle.iol_proc.specs.declared.choice.Choice.{Choice}
use Rattle.flash_cgi.specs.declared.worker.Worker.{Worker}
use Rattle.flash_laws.specs.SiteContents.{Refusals}
use Rattle.flash_laws.specs.World.Consistency.{Actor}
use Rattle.flash_laws.specs.World.Fair.{any_refusal, no_refusal}
use Rattle.flash_lite.specs.HostedSite.{HasFairTurns, Hosts, PreservesSite, IsRightAfter, refusals_of}
use Rattle.flash_lite.specs.Library.{library_of}
use Rattle.flash_lite.specs.declared.site.Site.{Site}
use Rattle.flash_lite.proofs.World.FairTurns.{any-turns, own-turns, failure_free-turns}
use Rattle.flash_lite.proofs.laws.hosted_is_right.Goals as goal

fair-right : (c : goal.After-runs_are_fair) (s : Site) (slots : List (List ℕ)) (xs : List Choice) (rs : List Reply)
    (turns : ℕ) (idle : Bool)
    (after : WorldState State (Actor Worker)) (hosts : Hosts s slots xs rs turns idle after) (refuses : Refusals)
    → PreservesSite s slots xs rs turns idle after hosts → HasFairTurns s slots xs rs turns idle after hosts refuses
    → IsRightAfter s slots xs rs turns idle after hosts refuses
fair-right c s slots xs rs turns idle after hosts refuses site_preserving fair =
    c.connections_do_not_meet.ensures.host s c.idle_is_quiescent.ensures (library_of s slots refuses) xs rs hosts.first
    hosts.mid after turns idle
    (hosts.new.new refuses) hosts.run site_preserving hosts.ends fair.0 fair.1

pub returns : goal.returns
returns c = λ s slots xs rs turns idle after hosts. record {
  fair = λ refuses site_preserving fair. fair-right c s slots xs rs turns idle after hosts refuses site_preserving fair;
  failure_free = λ site_preserving failure_free. fair-right c s slots xs rs turns idle after hosts no_refusal
      site_preserving
      (failure_free-turns s slots xs rs turns idle after hosts c.runs_are_fair.ensures.failure_free
      c.failure_free_runs.ensures failure_free);
  own =
      λ site_preserving. fair-right c s slots xs rs turns idle after hosts
      (refusals_of s slots xs rs turns idle after hosts) site_preserving
      (own-turns s slots xs rs turns idle after hosts c.runs_are_fair.ensures.own);
  any = λ site_preserving. fair-right c s slots xs rs turns idle after hosts any_refusal site_preserving
      (any-turns s slots xs rs turns idle after hosts c.runs_are_fair.ensures.any);
}
