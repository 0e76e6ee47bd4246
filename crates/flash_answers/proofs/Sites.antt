-- The connections of a site's world have their answers.
use Rattle.std.proofs.Common.{◌≡◌, ◌∙◌, ℕ, Bool, true, List, [], ◌∷◌, ◌++◌, sym}
use Rattle.iol_core.specs.State.{State}
use Rattle.iol_core.specs.declared.events.Event.TheVariants as event
use Rattle.iol_core.specs.declared.events.Reply.{Reply}
use Rattle.iol_system.specs.Prelude.{slots_of}
use Rattle.iol_proc.specs.World.{WorldState, copied, copying, WorldRun}
use Rattle.iol_proc.specs.declared.choice.Choice.{Choice}
use Rattle.iol_proc.specs.declared.choice.Choice.TheVariants as choice
use Rattle.iol_reactor.specs.Serving.{AreServing, IsServing}
use Rattle.iol_reactor.specs.Visits.{HasVisited, Visits}
use Rattle.iol_system.specs.Machine.{SystemState}
use Rattle.flash_cgi.specs.declared.worker.Worker.{Worker}
use Rattle.flash_clients.specs.Visits.{IsVisit, IsVisitAnswered, VisitsAreAnswered}
use Rattle.flash_laws.specs.Serves.Rounds.{in_rounds}
use Rattle.flash_laws.specs.Site.{net_pool}
use Rattle.flash_laws.specs.World.{RunKeepsConsistency, Consistent}
use Rattle.flash_laws.specs.World.Undisturbed.{AreSitePreserving, IsSitePreserving}
use Rattle.flash_laws.specs.World.Fair.{any_refusal, AnyIsFair}
use Rattle.flash_laws.specs.World.Host.{IsRight}
use Rattle.flash_laws.specs.World.Consistency.{Actor, actor_turns}
use Rattle.flash_lite.specs.WorkerSet.{worker_set_of}
use Rattle.flash_lite.specs.HostedSite.{HostedIsRight, IsRightAfter}
use Rattle.flash_lite.specs.Workers.{worker_turns}
use Rattle.flash_lite.specs.declared.site.Site.{Site}
use Rattle.flash_site.specs.World.{BeginsSite, IsSiteWorld}
use Rattle.flash_answers.specs.Sites.{IsAnsweredBySite, SitesAnswer, site_of}

-- ---- the choices of a serving world are site-preserving

site_preserving_one : (pool : ℕ) (x : Choice) (w after : WorldState State (Actor Worker)) → IsServing pool x
    → IsSitePreserving w x after
site_preserving_one pool (choice.Turn by) w after on = tt
site_preserving_one pool (choice.Outside (event.ConnNew p)) w after on = tt
site_preserving_one pool (choice.Outside (event.Arrive c bytes)) w after on = tt
site_preserving_one pool (choice.Outside (event.PeerClosed c how)) w after on = tt
site_preserving_one pool (choice.Outside (event.Transmit c max)) w after on = tt
site_preserving_one pool (choice.Outside (event.Call d k)) w after on = absurd on
site_preserving_one pool (choice.Outside e) w after on = absurd on

all_site_preserving : (pool : ℕ) (xs : List Choice) (rs : List Reply) (w after : WorldState State (Actor Worker))
    → (run : WorldRun copying (actor_turns in_rounds worker_turns) w xs rs after) → AreServing pool xs
    → AreSitePreserving (actor_turns in_rounds worker_turns) w xs rs after run
all_site_preserving pool [] rs w after run on = tt
all_site_preserving pool (x ∷ xs) [] w after run on = tt
all_site_preserving pool (x ∷ xs) (r ∷ rs) w after run on =
    (site_preserving_one pool x w run.0 on.0, all_site_preserving pool xs rs run.0 after run.2 on.1)

-- ---- the law

module _ (keeps : (s : Site) → RunKeepsConsistency in_rounds (worker_set_of s)) (hosted : HostedIsRight)
    (fair : AnyIsFair) (visits : (s : Site) → VisitsAreAnswered (worker_set_of s))
    (c : ℕ) (came sent : List ℕ) (gone : Bool) (w : WorldState SystemState (Actor Worker))
    (visited : HasVisited (actor_turns in_rounds worker_turns) BeginsSite net_pool c came sent gone w)
    (is : IsSiteWorld visited.begun)
    (honest : visited.begun.machine.disk.honest ≡ true) where
  -- the world before its first turn
  hosts-right : IsRightAfter is.is.site (slots_of is.store.slots) [] is.is.replies 0 is.is.idle (copied visited.begun)
      (is.is.honest (sym is.is.over.honest ∙ honest)) any_refusal
  hosts-right =
      (hosted is.is.site (slots_of is.store.slots) [] is.is.replies 0 is.is.idle (copied visited.begun)
      (is.is.honest (sym is.is.over.honest ∙ honest))).any tt

  visit : Visits (actor_turns in_rounds worker_turns) net_pool c came sent gone (copied visited.begun) (copied w)
  visit = visited.visits honest

  answered_by : (past : List Choice) (ps : List Reply)
      → Consistent (site_of visited.begun is) (worker_set_of is.is.site) past ps (copied visited.begun)
      → IsAnsweredBySite c came sent gone w visited is
  answered_by past ps consistent = record { begins = done.begins; whole = done.whole }
    where
      before : Consistent (site_of visited.begun is) (worker_set_of is.is.site) (past ++ visit.past.choices)
          (ps ++ visit.past.replies) visit.before
      before = keeps is.is.site (site_of visited.begun is) past visit.past.choices ps visit.past.replies
          (copied visited.begun) visit.before visit.past.run
          (all_site_preserving net_pool visit.past.choices visit.past.replies (copied visited.begun) visit.before
          visit.past.run visit.past.serving)
          (fair visit.past.choices visit.past.replies) consistent

      own : IsVisit worker_turns c came sent gone visit.before (copied w)
      own = record {
        begun = visit.first;
        made = visit.made;
        choices = visit.since.continues.choices;
        replies = visit.since.continues.replies;
        run = visit.since.continues.run;
        site_preserving = all_site_preserving net_pool visit.since.continues.choices visit.since.continues.replies
            visit.first (copied w) visit.since.continues.run visit.since.continues.serving;
        comes = visit.since.comes;
        goes = visit.since.goes;
        reports = visit.since.reports;
      }

      done : IsVisitAnswered (worker_set_of is.is.site) (site_of visited.begun is) (past ++ visit.past.choices)
          (ps ++ visit.past.replies) c came sent gone visit.before (copied w) own
      done = visits is.is.site (site_of visited.begun is) (past ++ visit.past.choices) (ps ++ visit.past.replies) c came
          sent gone visit.before (copied w) before own
          (fair visit.since.continues.choices visit.since.continues.replies)

  site_answers : IsAnsweredBySite c came sent gone w visited is
  site_answers = answered_by _ _ hosts-right.consistent

pub sites_answer : ((s : Site) → RunKeepsConsistency in_rounds (worker_set_of s)) → HostedIsRight → AnyIsFair
    → ((s : Site) → VisitsAreAnswered (worker_set_of s)) → SitesAnswer
sites_answer keeps hosted fair visits =
    λ c came sent gone w visited is honest. site_answers keeps hosted fair visits c came sent gone w visited is honest
