use Rattle.std.proofs.Common.{ℕ, Bool, [], ◌++◌, length, map, subst}
use Rattle.iol_proc.specs.Idle.{Idles, rounds}
use Rattle.iol_proc.specs.World.{copying, domains_of}
use Rattle.flash_laws.specs.Workers.WorkerSet.{WorkerSet}
use Rattle.flash_laws.specs.Workers.WorkerSets.{worker_set_with}
use Rattle.flash_laws.specs.Serves.Rounds.{in_rounds}
use Rattle.flash_laws.specs.Serves.{any}
use Rattle.flash_laws.specs.World.Consistency.{actor_turns}
use Rattle.flash_laws.specs.World.{JobQueuesAreApart}
use Rattle.flash_laws.specs.World.Host.{HostIsRight}
use Rattle.flash_laws.proofs.Conn.Responses.{WindowLaws}
use Rattle.flash_laws.proofs.Site.SitePreservingTurns.{rounds-site_preserving}
use Rattle.flash_laws.proofs.Site.IdleMoments.{actor_quiesces}
use Rattle.flash_laws.proofs.TheLaws.{TheLaws}
use Rattle.flash_laws.proofs.World.AllLaws.{AllLaws}
use Rattle.flash_laws.proofs.World.JobQueue.Texts.{texts_are_delivered}
use Rattle.flash_laws.proofs.World.Idle.Whole.{idle_done}
use Rattle.flash_laws.proofs.World.Steps.{step_keeps, run_keeps}
use Rattle.flash_laws.proofs.World.Whole.{first_consistent, consistent_answered, consistent_whole}
use Rattle.flash_laws.proofs.world_law.world_law.Given.{Over}
use Rattle.flash_laws.proofs.world_law.world_law.Goals as goal

window_laws : (g : Over) (c : goal.After-window_fits g) → WindowLaws
window_laws g c = record { stay = c.window_stays.ensures; fit = c.window_fits.ensures }

the_laws : (g : Over) (c : goal.After-window_fits g) → TheLaws
the_laws g c = record {
  windows = window_laws g c;
  steps = c.each_step_leaves_the_rest.ensures;
  orders = c.each_step_keeps_order.ensures;
  own = c.calls_serve_their_domain.ensures;
  files = c.file_calls_serve_their_domain.ensures;
  reasons = c.refusals_tell_why.ensures;
  fresh = c.numbers_are_new.ensures;
  other = c.others_leave_connections.ensures;
  rises = c.connection_numbers_rise.ensures.rises;
}

abbrev worker_set_of : (g : Over) → (count : ℕ) → (job_queue : ℕ → ℕ) → (pools jobs : ℕ → Bool) → WorkerSet
worker_set_of g count job_queue pools jobs =
    worker_set_with g.W.RunsScripts.turns g.W.RunsScripts.quiescent g.W.RunsScripts.free g.W.RunsScripts.expected count
    job_queue pools jobs

all_laws : (g : Over) (c : goal.After-window_fits g) (count : ℕ) (job_queue : ℕ → ℕ) (pools jobs : ℕ → Bool)
    → JobQueuesAreApart (worker_set_of g count job_queue pools jobs)
    → AllLaws (worker_set_of g count job_queue pools jobs)
all_laws g c count job_queue pools jobs apart = record {
  the = the_laws g c;
  aggs = c.aggregates_come_and_go.ensures;
  pipes = c.others_leave_pipes.ensures;
  labels = c.labels_follow.ensures;
  numbers = c.descriptors_come_by_replies.ensures;
  left = c.refusals_that_are_left.ensures;
  receive = c.others_receive.ensures;
  queries = c.served_requests.ensures.queries;
  closes = c.served_requests.ensures.closes;
  expected = c.expected_may_come.ensures;
  runs = c.runs_law.ensures;
  run_keeps = c.run_keeping_law.ensures;
  workers = c.runs.ensures pools;
  texts = texts_are_delivered g.W.RunsScripts.turns g.W.RunsScripts.quiescent pools (g.W.RunsScripts.free pools)
      (g.W.RunsScripts.expected pools) (c.runs.ensures pools)
      c.calls_serve_their_domain.ensures c.labels_follow.ensures c.others_receive.ensures;
  apart = apart;
}

pub returns-clause-first : goal.returns-clause-first
returns-clause-first g c =
    λ count job_queue pools jobs apart site_contents. first_consistent site_contents
    (worker_set_of g count job_queue pools jobs)

pub returns-clause-step : goal.returns-clause-step
returns-clause-step g c =
    λ count job_queue pools jobs apart site_contents. step_keeps in_rounds site_contents
    (worker_set_of g count job_queue pools jobs) (all_laws g c count job_queue pools jobs apart)

pub returns-clause-run : goal.returns-clause-run
returns-clause-run g c = λ count job_queue pools jobs apart site_contents past xs ps rs w after.
    run_keeps in_rounds site_contents (worker_set_of g count job_queue pools jobs)
    (all_laws g c count job_queue pools jobs apart) xs rs w after past ps

pub returns-clause-free_step : goal.returns-clause-free_step
returns-clause-free_step g c =
    λ count job_queue pools jobs apart site_contents. step_keeps any site_contents
    (worker_set_of g count job_queue pools jobs) (all_laws g c count job_queue pools jobs apart)

pub returns-clause-free_run : goal.returns-clause-free_run
returns-clause-free_run g c = λ count job_queue pools jobs apart site_contents past xs ps rs w after.
    run_keeps any site_contents (worker_set_of g count job_queue pools jobs)
    (all_laws g c count job_queue pools jobs apart) xs rs w after past ps

pub returns-clause-answered : goal.returns-clause-answered
returns-clause-answered g c =
    λ count job_queue pools jobs apart site_contents. consistent_answered (window_laws g c) site_contents
    (worker_set_of g count job_queue pools jobs)

pub returns-clause-whole : goal.returns-clause-whole
returns-clause-whole g c =
    λ count job_queue pools jobs apart site_contents. consistent_whole (window_laws g c) site_contents
    (worker_set_of g count job_queue pools jobs)

pub returns-clause-quiesces : goal.returns-clause-quiesces
returns-clause-quiesces g c =
    actor_quiesces c.refusals_that_are_left.ensures.waits g.W.RunsScripts.turns g.W.RunsScripts.quiescent
    c.quiesces.ensures

pub returns-clause-idle : goal.returns-clause-idle
returns-clause-idle g c = λ count job_queue pools jobs apart. idle_done (worker_set_of g count job_queue pools jobs)
    (all_laws g c count job_queue pools jobs apart)

-- a whole run: choices, and then turns in rounds
hosts : (worker_set : WorkerSet) → AllLaws worker_set → HostIsRight worker_set
hosts worker_set laws quiescent site_contents xs rs w mid after most idle new run site_preserving ends fair
    fair_rounds =
    let consistent_mid = run_keeps in_rounds site_contents worker_set laws xs rs w mid [] [] run site_preserving fair
    (first_consistent site_contents worker_set w new) in
    let consistent_end =
    run_keeps in_rounds site_contents worker_set laws (rounds (domains_of mid.process_slots) 0 (length ends.went))
    (map (λ t. t.1) ends.went) mid after xs rs ends.run
    (rounds-site_preserving (actor_turns in_rounds worker_set.turns) (domains_of mid.process_slots) 0 (length ends.went)
    (map (λ t. t.1) ends.went) mid after ends.run) fair_rounds consistent_mid in
    record {
      answered =
          consistent_answered laws.the.windows site_contents worker_set
          (xs ++ rounds (domains_of mid.process_slots) 0 (length ends.went)) (rs ++ map (λ t. t.1) ends.went) after
          consistent_end;
      whole =
          consistent_whole laws.the.windows site_contents worker_set
          (xs ++ rounds (domains_of mid.process_slots) 0 (length ends.went)) (rs ++ map (λ t. t.1) ends.went) after
          consistent_end;
      consistent = consistent_end;
      done =
          λ is. idle_done worker_set laws quiescent site_contents
          (xs ++ rounds (domains_of mid.process_slots) 0 (length ends.went)) (rs ++ map (λ t. t.1) ends.went) mid after
          most
          (subst (λ b. Idles copying (actor_turns in_rounds worker_set.turns) mid most b after) is ends) consistent_end;
    }

pub returns-clause-host : goal.returns-clause-host
returns-clause-host g c =
    λ count job_queue pools jobs apart. hosts (worker_set_of g count job_queue pools jobs)
    (all_laws g c count job_queue pools jobs apart)
