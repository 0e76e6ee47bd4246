-- A site that was set up in a new machine: its world is new for the law over whole worlds.
use Rattle.std.proofs.Common.{◌≡◌, ◌<◌, ℕ, List, refl, sym, subst, ap, arith, None, true, Bool}
use Rattle.std.specs.Prelude.{unwrap_or}
use Rattle.iol_core.specs.Access.{HasAccess}
use Rattle.iol_core.specs.Positions.{ArePlaced}
use Rattle.iol_core.specs.Run.{Run}
use Rattle.iol_core.specs.State.{Domain, Pipe, State, conn_at, domain, new_state}
use Rattle.iol_core.specs.Text.{Text}
use Rattle.iol_laws.specs.Caller.{readable_at}
use Rattle.iol_laws.specs.DescriptorNumbers.{AreLow, DescriptorsComeByReplies}
use Rattle.iol_laws.specs.Order.{IsOrderly, EachStepKeepsOrder}
use Rattle.iol_laws.proofs.Runs.{run_keeps}
use Rattle.iol_proc.specs.declared.process_slot.ProcessSlot.{ProcessSlot}
use Rattle.flash_cgi.specs.Free.{HasNoJob, WorkersStayFree}
use Rattle.flash_cgi.specs.declared.worker.Worker.{Worker}
use Rattle.flash_laws.specs.SiteContents.{Refusals}
use Rattle.flash_laws.specs.Run.{worker_domain}
use Rattle.flash_laws.specs.Site.{server}
use Rattle.flash_laws.specs.World.Consistency.{Actor}
use Rattle.flash_laws.specs.World.{JobQueuesAreApart, IsNew}
use Rattle.flash_laws.specs.Workers.{IsFreeFor}
use Rattle.flash_lite.specs.WorkerSet.{worker_set_of, is_shown}
use Rattle.flash_lite.specs.Library.{library_of}
use Rattle.flash_lite.specs.Setup.{calls, is_in_range, workers_used}
use Rattle.flash_lite.specs.SiteState.{state_of}
use Rattle.flash_lite.specs.SiteWorld.{SetUpIsANewWorld}
use Rattle.flash_lite.specs.declared.site.Site.{Site}
use Rattle.flash_lite.proofs.World.JobQueues.{has_job_queue, worker_there}
use Rattle.flash_lite.proofs.Calls.Outcome.{Led}
use Rattle.flash_lite.proofs.World.NewSite.{Just, led_by, shorts}
use Rattle.flash_lite.proofs.World.FixedSite.{fixed_for, used_within}
use Rattle.flash_lite.proofs.World.SiteProcessSlots.{HasWorkerSet, SitsNew, has_worker_set}

module _ (orders : EachStepKeepsOrder) (descriptors : DescriptorsComeByReplies) (stay_free : WorkersStayFree) where
  module _ (s : Site) (slots : List (List ℕ)) where
    within : (k : ℕ) → k < workers_used s → k < s.workers
    within k lt = (let all = used_within s in omega (arith, lt, all))

    no_job : (k : ℕ) → k < workers_used s → HasNoJob (state_of s slots) (worker_domain k) k
    no_job k lt =
        let there = worker_there s slots k (within k lt) in
        let job_queue = has_job_queue s slots k (within k lt) in
        record {
          live = ap (λ (d : Domain Text). d.live) there;
          jobs = job_queue.reads;
          empty = ap (λ (p : Pipe). p.queue) job_queue.new;
          writing = ap (λ (p : Pipe). p.writing) job_queue.new;
        }

    -- each worker waits at its job queue
    free_at : (k : ℕ) → k < workers_used s → (process_slot : ProcessSlot Worker) → SitsNew k process_slot
        → IsFreeFor is_shown (state_of s slots) k process_slot
    free_at k lt process_slot sits =
        subst (λ (x : ProcessSlot Worker). IsFreeFor is_shown (state_of s slots) k x) (sym sits.here) (record {
          free = stay_free.new (state_of s slots) (worker_domain k) sits.worker sits.new;
          none = no_job k lt;
          default = ap (λ (d : Domain Text). is_shown (unwrap_or d.default 0)) (worker_there s slots k (within k lt));
        })

    -- the server has no aggregate
    no_aggregate : (a : ℕ) → readable_at (state_of s slots) server a ≡ None
    unfolding domain
    no_aggregate a = refl

    new_by : (process_slots : List (ProcessSlot (Actor Worker))) (resource_failure : Bool) (refuses : Refusals)
        → is_in_range s ≡ true → Led (Just slots) s slots (state_of s slots) → HasWorkerSet s process_slots
        → IsOrderly (state_of s slots)
        → HasAccess (state_of s slots) → ArePlaced (state_of s slots) → AreLow (state_of s slots)
        → IsNew (library_of s slots refuses) (worker_set_of s)
        (record { machine = state_of s slots; process_slots = process_slots; resource_failure = resource_failure })
    unfolding conn_at
    new_by process_slots resource_failure refuses fits l has order access placed low = record {
      order = order;
      fixed = fixed_for s slots refuses fits access placed low (shorts s slots l.short);
      workers = has.workers;
      process_slots = has.process_slots_are;
      job_queues = record {
        in_slots = has.there;
        by =
            λ k process_slot is. (
              has.number k process_slot is,
              ap (λ (x : ProcessSlot Worker). x.by) (has.each k process_slot is).here,
            );
        job_queues = λ k lt. (has_job_queue s slots k (within k lt)).writes;
      };
      free = λ k process_slot is. free_at k (has.number k process_slot is) process_slot (has.each k process_slot is);
      no_aggs = no_aggregate;
      no_conns = λ c. refl;
    }

  pub set_up_a_new_world : SetUpIsANewWorld
  set_up_a_new_world s old w fits set in_slots slots refuses is enough =
      let run : Run (new_state slots) (calls s) set.replies w.machine =
      subst (λ (m : State). Run m (calls s) set.replies w.machine) is set.run in
      let l = led_by s slots old w.machine fits set is in
      let order = run_keeps IsOrderly orders.step (new_state slots) w.machine (calls s) set.replies (orders.new slots)
      run in
      let access =
      run_keeps HasAccess orders.access (new_state slots) w.machine (calls s) set.replies (orders.new_access slots)
      run in
      let placed =
      run_keeps ArePlaced orders.places (new_state slots) w.machine (calls s) set.replies
      (orders.new_places slots enough) run in
      let low = descriptors.reached slots w.machine (calls s) set.replies run in
      subst (λ (m : State). Led (Just slots) s slots m → IsOrderly m → HasAccess m → ArePlaced m → AreLow m
      → IsNew (library_of s slots refuses) (worker_set_of s)
      (record { machine = m; process_slots = w.process_slots; resource_failure = w.resource_failure }))
      (sym l.state)
      (λ led o a p d. new_by s slots w.process_slots w.resource_failure refuses fits led
      (has_worker_set s w.process_slots in_slots) o a p d) l order access placed low

-- ---- hosted by a system

-- each worker has a job queue of its own
pub job_queues_apart : (s : Site) → JobQueuesAreApart (worker_set_of s)
job_queues_apart s k l in_k in_l same = same
