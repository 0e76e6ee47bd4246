-- Progress of a hosted site without scripts.
use Rattle.std.specs.Prelude.{◌≡◌, ◌≤◌, ℕ, Bool, List, ◌++◌, length, map, IsTrue}
use Rattle.iol_core.specs.State.{State}
use Rattle.iol_core.specs.declared.events.Reply.{Reply}
use Rattle.iol_proc.specs.Idle.{rounds}
use Rattle.iol_proc.specs.World.{WorldState, domains_of}
use Rattle.iol_proc.specs.declared.choice.Choice.{Choice}
use Rattle.flash_cgi.specs.declared.worker.Worker.{Worker}
use Rattle.flash_laws.specs.SiteContents.{Refusals}
use Rattle.flash_laws.specs.World.Consistency.{Actor}
use Rattle.flash_progress.specs.Bound.{turns_that_suffice}
use Rattle.flash_progress.specs.Served.{AreServed, CanPlace, NoneLacksResource, clients_in}
use Rattle.flash_lite.specs.WorkerSet.{worker_set_of}
use Rattle.flash_lite.specs.HostedSite.{HasFairTurns, Hosts, PreservesSite}
use Rattle.flash_lite.specs.Library.{library_of}
use Rattle.flash_lite.specs.Setup.{workers_used}
use Rattle.flash_lite.specs.declared.site.Site.{Site}

-- The site has no scripts, and external calls are site-preserving. When the turns in rounds begin, the pool `work` is
-- open, and their number suffices. None of them is refused for lack of table entries, pages or memory.
pub record IsHostedLongEnough (s : Site) (slots : List (List ℕ)) (xs : List Choice) (rs : List Reply) (turns : ℕ)
    (idle : Bool)
    (after : WorldState State (Actor Worker)) (hosts : Hosts s slots xs rs turns idle after) : Type 0 where
  pub files : workers_used s ≡ 0
  pub site_preserving : PreservesSite s slots xs rs turns idle after hosts
  pub places : CanPlace hosts.mid.machine
  pub lacks_none : NoneLacksResource hosts.ends.went
  pub suffices : turns_that_suffice hosts.mid.machine (clients_in hosts.mid) ≤ turns

-- All become idle. If its turns got no other refusals than these, each connection of the net is served, with responses
-- that these refusals permit.
abbrev pub HostedFilesBecomeIdle : Type 0
HostedFilesBecomeIdle = (s : Site) (slots : List (List ℕ)) (xs : List Choice) (rs : List Reply) (turns : ℕ)
    (idle : Bool) (after : WorldState State (Actor Worker)) (hosts : Hosts s slots xs rs turns idle after)
    → IsHostedLongEnough s slots xs rs turns idle after hosts
    → IsTrue idle
    × ((refuses : Refusals) → HasFairTurns s slots xs rs turns idle after hosts refuses
    → AreServed (worker_set_of s) (library_of s slots refuses)
    (xs ++ rounds (domains_of hosts.mid.process_slots) 0 (length hosts.ends.went))
    (rs ++ map (λ t. t.1) hosts.ends.went) after)
