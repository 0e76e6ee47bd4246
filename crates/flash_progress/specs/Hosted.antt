-- Progress of a site of files, from its new world.
use Rattle.std.specs.Prelude.{◌≡◌, ◌≤◌, ℕ, Bool, List, ◌++◌, length, map, IsTrue}
use Rattle.iol_core.specs.State.{State}
use Rattle.iol_core.specs.declared.events.Reply.{Reply}
use Rattle.iol_proc.specs.Idle.{Idles, rounds}
use Rattle.iol_proc.specs.World.{WorldState, WorldRun, copying, domains_of}
use Rattle.iol_proc.specs.declared.choice.Choice.{Choice}
use Rattle.flash_laws.specs.Serves.Rounds.{in_rounds}
use Rattle.flash_laws.specs.SiteContents.{SiteContents}
use Rattle.flash_laws.specs.Workers.WorkerSet.{WorkerSet}
use Rattle.flash_laws.specs.World.{AreFair, IsNew}
use Rattle.flash_laws.specs.World.Undisturbed.{AreSitePreserving}
use Rattle.flash_laws.specs.World.Consistency.{Actor, actor_turns}
use Rattle.flash_progress.specs.Bound.{turns_that_suffice}
use Rattle.flash_progress.specs.Served.{AreServed, CanPlace, NoneLacksResource, clients_in}

module _ (worker_set : WorkerSet) where
  -- A new world of files executes choices with site-preserving external calls; calls are refused as the site contents
  -- permit. Then it takes turns in rounds, at most `most`. When these begin, the server's default pool is open, and
  -- `most` suffices. None of them is refused for lack of table entries, pages or memory, or with a fault that the site
  -- contents do not permit.
  pub record HostsLongEnough (site_contents : SiteContents) (xs : List Choice) (rs : List Reply)
      (w mid : WorldState State (Actor worker_set.Worker)) (most : ℕ)
      (idle : Bool) (after : WorldState State (Actor worker_set.Worker)) : Type 0 where
    pub files : worker_set.count ≡ 0
    pub new : IsNew site_contents worker_set w
    pub run : WorldRun copying (actor_turns in_rounds worker_set.turns) w xs rs mid
    pub site_preserving : AreSitePreserving (actor_turns in_rounds worker_set.turns) w xs rs mid run
    pub places : CanPlace mid.machine
    pub ends : Idles copying (actor_turns in_rounds worker_set.turns) mid most idle after
    pub lacks_none : NoneLacksResource ends.went
    pub fair : AreFair site_contents.refuses xs rs
    pub fair_rounds : AreFair site_contents.refuses (rounds (domains_of mid.process_slots) 0 (length ends.went))
        (map (λ t. t.1) ends.went)
    pub suffices : turns_that_suffice mid.machine (clients_in mid) ≤ most

  -- All become idle, and each connection of the net is served.
  abbrev pub HostedBecomesIdle : Type 0
  HostedBecomesIdle =
      (site_contents : SiteContents) (xs : List Choice) (rs : List Reply)
      (w mid : WorldState State (Actor worker_set.Worker)) (most : ℕ)
      (idle : Bool) (after : WorldState State (Actor worker_set.Worker))
      → (has : HostsLongEnough site_contents xs rs w mid most idle after)
      → IsTrue idle
      × AreServed worker_set site_contents (xs ++ rounds (domains_of mid.process_slots) 0 (length has.ends.went))
      (rs ++ map (λ t. t.1) has.ends.went) after
