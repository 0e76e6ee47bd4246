-- Each step of a worker brings its script nearer to its end.
use Rattle.std.proofs.Common.{◌≡◌, ℕ, List, refl, Some}
use Rattle.iol_core.specs.State.{State}
use Rattle.iol_core.specs.Run.{StepsTo}
use Rattle.iol_core.specs.declared.events.Event.TheVariants as event
use Rattle.iol_core.specs.declared.events.Reply.{Reply}
use Rattle.iol_laws.specs.Caller.{CallsServeTheirDomain, readable_at}
use Rattle.iol_laws.specs.Frame.{EachStepLeavesTheRest}
use Rattle.iol_laws.specs.Order.{IsOrderly}
use Rattle.flash_cgi.specs.Feeds.{Feeds, Needs}
use Rattle.flash_cgi.specs.Job.{Task}
use Rattle.flash_cgi.specs.Output.{Outcome}
use Rattle.flash_cgi.specs.WorkerSteps.{call_at, after_reply}
use Rattle.flash_cgi.specs.declared.phase.Phase.{Phase}
use Rattle.flash_cgi.specs.declared.phase.Phase.TheVariants as phase
use Rattle.flash_cgi.specs.declared.phase.Step.{Step}
use Rattle.flash_workers.specs.Advance.{IsNearer, IsReady, IsTidy, WorkersAdvance}
use Rattle.flash_workers.proofs.Falls.{falls}
use Rattle.flash_workers.proofs.Replies.{again, facts, rank-same}

ready : (m : State) (d p : ℕ) (job : Task) (step : Step) (unseen : List Outcome → List ℕ) → Feeds m d p job step unseen
    → IsReady m d p job step.phase
ready m d p job step unseen feeds = by step.phase feeds.needs
  where
    by : (e : Phase) → Needs m d e → IsReady m d p job e
    by (phase.Writing agg) needs = (feeds.open_on, needs)
    by (phase.CuttingRest agg from to) needs = (needs.0, needs.1)
    by (phase.DroppingTaken agg rest) needs = (needs.0, needs.1)
    by e needs = tt

nears : EachStepLeavesTheRest → CallsServeTheirDomain
    → (m n : State) (d p : ℕ) (job : Task) (step next : Step) (r : Reply) → IsOrderly m
    → IsReady m d p job step.phase → IsTidy step → StepsTo m (event.Call d (call_at job step)) r n
    → after_reply job step (readable_at n d) r ≡ Some next
    → IsTidy next × IsNearer job (readable_at m d) (readable_at n d) step next
nears steps own m n d p job step next r order ready tidy did is =
    falls job (readable_at m d) (readable_at n d) step.begun step.piece step.phase r next
    (facts steps own m n d p job order step.piece step.begun step.phase r ready did) tidy is

pub workers_advance : EachStepLeavesTheRest → CallsServeTheirDomain → WorkersAdvance
workers_advance steps own = record {
  begins = λ agg. (refl, refl, refl, refl);
  ready = ready;
  nears = nears steps own;
  stays = λ m n d job step r other did is. again m n d job (readable_at n d) step.piece step.begun step.phase r other
      did is;
  others = λ m n d p job step e r ready did other. rank-same steps m n d p job step e r ready did other;
}
