-- A whole run of a world with workers: choices, followed by turns in rounds until all are idle.
use Rattle.std.specs.Prelude.{ℕ, Bool, List, ◌++◌, length, map, IsTrue}
use Rattle.iol_core.specs.State.{State}
use Rattle.iol_core.specs.declared.events.Reply.{Reply}
use Rattle.iol_proc.specs.Idle.{Idles, rounds}
use Rattle.iol_proc.specs.World.{WorldState, copying, WorldRun, domains_of}
use Rattle.iol_proc.specs.declared.choice.Choice.{Choice}
use Rattle.flash_laws.specs.World.Undisturbed.{AreSitePreserving}
use Rattle.flash_laws.specs.Workers.WorkerSet.{WorkerSet}
use Rattle.flash_laws.specs.World.Quiesces.{ActorsAreQuiescent}
use Rattle.flash_laws.specs.Serves.Rounds.{in_rounds}
use Rattle.flash_laws.specs.SiteContents.{SiteContents}
use Rattle.flash_laws.specs.World.Consistency.{past_of, Actor, actor_turns}
use Rattle.flash_laws.specs.World.{Consistent, IsNew, AllAnswered, ClosedAreWhole, AreFair}
use Rattle.flash_laws.specs.World.Done.{IsDone}

module _ (worker_set : WorkerSet) where
  -- the result, if turns are refused only as the site contents permit
  pub record IsRight (site_contents : SiteContents) (xs : List Choice) (rs : List Reply) (idle : Bool)
      (after : WorldState State (Actor worker_set.Worker)) : Type 0 where
    pub answered : AllAnswered site_contents xs rs after.machine
    pub whole : ClosedAreWhole site_contents xs rs after.machine
    pub consistent : Consistent site_contents worker_set xs rs after
    pub done : IsTrue idle
        → IsDone site_contents worker_set.count after.machine (past_of xs rs) consistent.in_slots.state.clients

  -- A new world executes choices with site-preserving external calls, and then turns until it is idle; each turn is
  -- fair.
  abbrev pub HostIsRight : Type 0
  HostIsRight = ActorsAreQuiescent worker_set.turns worker_set.quiescent
      → (site_contents : SiteContents) (xs : List Choice) (rs : List Reply)
      (w mid after : WorldState State (Actor worker_set.Worker)) (most : ℕ) (idle : Bool)
      → IsNew site_contents worker_set w
      → (run : WorldRun copying (actor_turns in_rounds worker_set.turns) w xs rs mid)
      → AreSitePreserving (actor_turns in_rounds worker_set.turns) w xs rs mid run
      → (ends : Idles copying (actor_turns in_rounds worker_set.turns) mid most idle after)
      → AreFair site_contents.refuses xs rs
      → AreFair site_contents.refuses (rounds (domains_of mid.process_slots) 0 (length ends.went))
      (map (λ t. t.1) ends.went)
      → IsRight site_contents (xs ++ rounds (domains_of mid.process_slots) 0 (length ends.went))
      (rs ++ map (λ t. t.1) ends.went) idle after
