use Rattle.std.proofs.Common.{ℕ, Bool}
use Rattle.flash_laws.specs.Workers.WorkerSet.{WorkerSet}
use Rattle.flash_laws.specs.Workers.WorkerSets.{worker_set_with}
use Rattle.flash_laws.specs.World.{JobQueuesAreApart}
use Rattle.flash_laws.proofs.Conn.Responses.{WindowLaws}
use Rattle.flash_laws.proofs.TheLaws.{TheLaws}
use Rattle.flash_laws.proofs.World.AllLaws.{AllLaws}
use Rattle.flash_laws.proofs.World.JobQueue.Texts.{texts_are_delivered}
use Rattle.flash_progress.proofs.Invariant.{MoreLaws}
use Rattle.flash_progress.proofs.Hosted.{hosted_becomes_idle}
use Rattle.flash_progress.proofs.Served.{becomes_idle, serves_all}
use Rattle.flash_progress.proofs.laws.file_server_becomes_idle.Given.{Over}
use Rattle.flash_progress.proofs.laws.file_server_becomes_idle.Goals as goal

window_laws : (g : Over) (c : goal.After-window_fits g) → WindowLaws
window_laws g c = record { stay = c.window_stays.ensures; fit = c.window_fits.ensures }

the_laws : (g : Over) (c : goal.After-window_fits g) → TheLaws
the_laws g c = record {
  windows = window_laws g c;
  steps = c.each_step_leaves_the_rest.ensures;
  orders = c.each_step_keeps_order.ensures;
  own = c.calls_serve_their_domain.ensures;
  files = c.file_calls_serve_their_domain.ensures;
  reasons = c.refusals_tell_why.ensures;
  fresh = c.numbers_are_new.ensures;
  other = c.others_leave_connections.ensures;
  rises = c.connection_numbers_rise.ensures.rises;
}

abbrev worker_set_of : (g : Over) → (count : ℕ) → (job_queue : ℕ → ℕ) → (pools jobs : ℕ → Bool) → WorkerSet
worker_set_of g count job_queue pools jobs =
    worker_set_with g.W.RunsScripts.turns g.W.RunsScripts.quiescent g.W.RunsScripts.free g.W.RunsScripts.expected count
    job_queue pools jobs

all_laws : (g : Over) (c : goal.After-window_fits g) (count : ℕ) (job_queue : ℕ → ℕ) (pools jobs : ℕ → Bool)
    → JobQueuesAreApart (worker_set_of g count job_queue pools jobs)
    → AllLaws (worker_set_of g count job_queue pools jobs)
all_laws g c count job_queue pools jobs apart = record {
  the = the_laws g c;
  aggs = c.aggregates_come_and_go.ensures;
  pipes = c.others_leave_pipes.ensures;
  labels = c.labels_follow.ensures;
  numbers = c.descriptors_come_by_replies.ensures;
  left = c.refusals_that_are_left.ensures;
  receive = c.others_receive.ensures;
  queries = c.served_requests.ensures.queries;
  closes = c.served_requests.ensures.closes;
  expected = c.expected_may_come.ensures;
  runs = c.runs_law.ensures;
  run_keeps = c.run_keeping_law.ensures;
  workers = c.runs.ensures pools;
  texts = texts_are_delivered g.W.RunsScripts.turns g.W.RunsScripts.quiescent pools (g.W.RunsScripts.free pools)
      (g.W.RunsScripts.expected pools) (c.runs.ensures pools)
      c.calls_serve_their_domain.ensures c.labels_follow.ensures c.others_receive.ensures;
  apart = apart;
}

more_laws : (g : Over) (c : goal.After-window_fits g) → MoreLaws
more_laws g c = record { homes = c.arrivals_lie_in_their_pool.ensures; histories = c.histories_add_up.ensures }

pub returns-clause-idle : goal.returns-clause-idle
returns-clause-idle g c = λ count job_queue pools jobs apart. becomes_idle (worker_set_of g count job_queue pools jobs)
    (all_laws g c count job_queue pools jobs apart) (more_laws g c)

pub returns-clause-served : goal.returns-clause-served
returns-clause-served g c = λ count job_queue pools jobs apart. serves_all (worker_set_of g count job_queue pools jobs)
    (all_laws g c count job_queue pools jobs apart) (more_laws g c) c.quiesces.ensures

pub returns-clause-hosted : goal.returns-clause-hosted
returns-clause-hosted g c = λ count job_queue pools jobs apart.
    hosted_becomes_idle (worker_set_of g count job_queue pools jobs) (all_laws g c count job_queue pools jobs apart)
    (more_laws g c) c.quiesces.ensures
