-- The effect of events other than calls of the server or a worker on the job pipes, and on the pipes of running
-- scripts.
use Rattle.std.proofs.Common.{inl, inr, ◌≡◌, ◌≢◌, ◌<◌, ℕ, List, ◌∙◌, refl, sym, subst, Option, Some, true, false}
use Rattle.std.proofs.Common.{slice_get}
use Rattle.std.specs.Prelude.{◌||◌}
use Rattle.iol_core.specs.State.{State, descriptor, pipe_at}
use Rattle.iol_core.specs.Run.{StepsTo}
use Rattle.iol_core.specs.declared.descriptors.Descriptor.TheVariants as on
use Rattle.iol_core.specs.declared.events.Event.{Event}
use Rattle.iol_core.specs.declared.events.Event.TheVariants as event
use Rattle.iol_core.specs.declared.events.Reply.{Reply}
use Rattle.iol_laws.specs.Order.{IsOrderly}
use Rattle.iol_laws.specs.Others.{HasNotEnd}
use Rattle.iol_proc.specs.declared.process_slot.ProcessSlot.{ProcessSlot}
use Rattle.flash_http.specs.Request.{Wanted}
use Rattle.flash_cgi.specs.Beside.{is_call_of}
use Rattle.flash_laws.specs.Client.{Client}
use Rattle.flash_laws.specs.Client.Fits.{FitsBy, FitsRun, Fits}
use Rattle.flash_cgi.specs.Expected.{Made}
use Rattle.flash_laws.specs.Workers.WorkerSet.{WorkerSet, IsFixedFor}
use Rattle.flash_laws.specs.Site.Past.{Past}
use Rattle.flash_laws.specs.Site.Places.{is_free}
use Rattle.flash_laws.specs.Workers.DeliversText.{DeliversText}
use Rattle.flash_laws.specs.Run.Fits.{Progress, HasPipe, HasStep}
use Rattle.flash_laws.specs.Run.OfferedBytes.{is_stopping}
use Rattle.flash_laws.specs.Run.{worker_domain, job_pipe}
use Rattle.flash_laws.specs.Site.ClientConsistency.{FitsAt, AreAtJobQueues, AllFit}
use Rattle.flash_laws.specs.SiteContents.{SiteContents}
use Rattle.flash_laws.specs.Site.{server, KeepsSite}
use Rattle.flash_laws.specs.Run.WorkerStates.{HasPipeOf, IsGiven, IsDelivering, IsAtStep}
use Rattle.flash_laws.specs.declared.script_run.Run.{Run}
use Rattle.flash_laws.specs.declared.script_run.Step.{Step}
use Rattle.flash_laws.specs.declared.script_run.Step.TheVariants.{GivingPipe, MakingJob, WritingJob, DroppingEnd}
use Rattle.flash_laws.specs.declared.script_run.Step.TheVariants.{DiscardingHeld, ClosingOutput, DroppingFrame}
use Rattle.flash_laws.specs.declared.script_run.Step.TheVariants.{MakingEnd, FillingEnd, DroppingLast}
use Rattle.flash_laws.specs.declared.script_run.Step.TheVariants.{DroppingLastFrame, ClosingPipe, DiscardingJob}
use Rattle.flash_laws.specs.declared.script_run.Step.TheVariants.{Failing}
use Rattle.flash_laws.specs.declared.script_run.Running.{Running}
use Rattle.flash_laws.specs.declared.script_run.Running.TheVariants.{InProgress}
use Rattle.flash_laws.proofs.Lists.{clash, self, later_of, former_of}
use Rattle.flash_laws.proofs.World.AllLaws.{AllLaws}
use Rattle.flash_laws.proofs.World.JobQueue.Jobs.{reads-jobs}
use Rattle.flash_laws.proofs.World.JobQueue.Frame.{LeavesOne, none-given, none-touched}

-- an end names one pipe
read-one : (p q : ℕ) → Some (on.ReadEnd p) ≡ Some (on.ReadEnd q) → p ≡ q
read-one p q e = cc

module _ (worker_set : WorkerSet) (laws : AllLaws worker_set) where
  -- a call of a domain that has no end of a pipe leaves the pipe unchanged
  pub pipe-left : (m n : State) (e : Event) (r : Reply) (p : ℕ) → StepsTo m e r n
      → ((d : ℕ) → is_call_of e d ≡ true → HasNotEnd m d (on.ReadEnd p))
      → ((d : ℕ) → is_call_of e d ≡ true → HasNotEnd m d (on.WriteEnd p))
      → ((pipe_at m p).reading || (pipe_at m p).writing) ≡ true → pipe_at n p ≡ pipe_at m p
  pipe-left m n (event.Call d k) r p step reads writes there =
      laws.pipes.pipe m n d k r p step (reads d (self d)) (writes d (self d)) there
  pipe-left m n e r p step reads writes there = (laws.the.steps.leaves m n e r step).pipes p refl

  -- ---- only the server and its worker have a write end of a run's pipe, while its output is received

  module _ (m : State) (order : IsOrderly m) (process_slot : ProcessSlot worker_set.Worker) (run : Run) (p : ℕ)
      (opens : descriptor m server run.from ≡ Some (on.ReadEnd p))
      (d : ℕ) (not_server : d ≢ server) (not_worker : d ≢ process_slot.by) where
    -- the pipe is the one that the server reads
    same-pipe : (has : HasPipeOf worker_set m run) → p ≡ has.pipe
    same-pipe has = read-one p has.pipe (sym opens ∙ has.reads)

    had-writes : (write : ℕ) → HasPipe m run write → HasNotEnd m d (on.WriteEnd p)
    had-writes write h g is =
        not_server
        (order.one d server g write (on.WriteEnd p) refl is
        (subst (λ q. descriptor m server write ≡ Some (on.WriteEnd q))
        (sym (read-one p h.pipe (sym opens ∙ h.read_end))) h.write_end)).0

    given-writes : (f : ℕ) → IsGiven worker_set m process_slot run f → HasNotEnd m d (on.WriteEnd p)
    given-writes f h g is =
        not_worker
        (order.one d process_slot.by g f (on.WriteEnd p) refl is
        (subst (λ q. descriptor m process_slot.by f ≡ Some (on.WriteEnd q)) (sym (same-pipe h.ready.has)) h.writes)).0

    puts-writes : (made : Made) (o : Progress) → IsDelivering worker_set m process_slot run made o
        → HasNotEnd m d (on.WriteEnd p)
    puts-writes made o h = by h.delivers_text
      where
        by : DeliversText worker_set.turns worker_set.pools worker_set.Free worker_set.Expected m
            (worker_set.job_queue run.worker) h.has.pipe process_slot made h.more → HasNotEnd m d (on.WriteEnd p)
        by (inl expected) g is =
            let writes = laws.workers.writes m (worker_set.job_queue run.worker) h.has.pipe process_slot made h.more
            expected in
            not_worker
            (order.one d process_slot.by g writes.0 (on.WriteEnd p) refl is
            (subst (λ q. descriptor m process_slot.by writes.0 ≡ Some (on.WriteEnd q)) (sym (same-pipe h.has))
            writes.1)).0
        by (inr there) g is =
            clash (pipe_at m p).writing (order.all_stand d g (on.WriteEnd p) is)
            (subst (λ q. (pipe_at m q).writing ≡ false) (sym (same-pipe h.has)) there.closed)

    at-step-writes : (job : ℕ → List ℕ) (w : Wanted) (made : Made) (o : Progress) (s : Step) → HasStep job m w o run s
        → IsAtStep worker_set m process_slot run made o s
        → is_stopping (InProgress run s) ≡ false → HasNotEnd m d (on.WriteEnd p)
    at-step-writes job w made o (GivingPipe write) has h going = had-writes write has.0
    at-step-writes job w made o (MakingJob f) has h going = given-writes f h
    at-step-writes job w made o (WritingJob j f) has h going = given-writes f h.0
    at-step-writes job w made o (DroppingEnd a held frame) has h going = absurd (cc (going))
    at-step-writes job w made o (DiscardingHeld held frame) has h going = absurd (cc (going))
    at-step-writes job w made o (ClosingOutput held frame) has h going = absurd (cc (going))
    at-step-writes job w made o (DroppingFrame frame held) has h going = absurd (cc (going))
    at-step-writes job w made o (MakingEnd held) has h going = absurd (cc (going))
    at-step-writes job w made o (FillingEnd held size frame) has h going = absurd (cc (going))
    at-step-writes job w made o (DroppingLast held chunk len frame) has h going = absurd (cc (going))
    at-step-writes job w made o (DroppingLastFrame frame chunk len) has h going = absurd (cc (going))
    at-step-writes job w made o (ClosingPipe write) has h going = absurd h
    at-step-writes job w made o (DiscardingJob j) has h going = absurd h
    at-step-writes job w made o Failing has h going = absurd h
    at-step-writes job w made o s has h going = puts-writes made o h

-- ---- all job queues, and each client

module _ (site_contents : SiteContents) (worker_set : WorkerSet) (laws : AllLaws worker_set) where
  module _ (m n : State) (p : Past) (clients : List (Option Client))
      (process_slots : List (ProcessSlot worker_set.Worker)) (e : Event) (r : Reply) (order : IsOrderly m)
      (fixed : IsFixedFor site_contents worker_set m) (site : KeepsSite m n) (step : StepsTo m e r n)
      (not_server : is_call_of e server ≡ false)
      (not_worker : (k : ℕ) → k < worker_set.count → is_call_of e (worker_domain k) ≡ false)
      (all : AllFit site_contents worker_set m p clients process_slots) where
    -- a domain that calls differs from a domain that does not call
    other-than : (d q : ℕ) → is_call_of e d ≡ true → is_call_of e q ≡ false → d ≢ q
    other-than d q is none same = clash (is_call_of e q) (subst (λ z. is_call_of e z ≡ true) same is) none

    -- so the caller has no end of a job queue, and leaves it unchanged
    pub job_queue-left : (k : ℕ) → k < worker_set.count
        → pipe_at n (worker_set.job_queue k) ≡ pipe_at m (worker_set.job_queue k)
    job_queue-left k lt =
        pipe-left worker_set laws m n e r (worker_set.job_queue k) step reads writes
        (later_of (pipe_at m (worker_set.job_queue k)).reading (pipe_at m (worker_set.job_queue k)).writing
        (order.all_stand server (job_pipe k) (on.WriteEnd (worker_set.job_queue k)) (all.job_queues.job_queues k lt)))
      where
        reads : (d : ℕ) → is_call_of e d ≡ true → HasNotEnd m d (on.ReadEnd (worker_set.job_queue k))
        reads d is g there =
            let sits = all.job_queues.in_slots k lt in
            other-than d (worker_domain k) is (not_worker k lt)
            ((order.one d sits.0.by g 0 (on.ReadEnd (worker_set.job_queue k)) refl there
            (reads-jobs site_contents worker_set laws m p clients process_slots all k sits.0 sits.1)).0
            ∙ (all.job_queues.by k sits.0 sits.1).1)

        writes : (d : ℕ) → is_call_of e d ≡ true → HasNotEnd m d (on.WriteEnd (worker_set.job_queue k))
        writes d is g there =
            other-than d server is not_server (order.one d server g (job_pipe k) (on.WriteEnd (worker_set.job_queue k))
            refl there (all.job_queues.job_queues k lt)).0

    -- nor has the caller an end of a run's pipe, while its output is received: it leaves the pipe unchanged
    run-left : (fd c : ℕ) (x : Client) (run : Run) (s : Step) (q : ℕ)
        → Fits site_contents worker_set m (p.came c) (p.sent c) fd c x process_slots → x.run ≡ Some (InProgress run s)
        → descriptor m server run.from ≡ Some (on.ReadEnd q) → is_stopping (InProgress run s) ≡ false
        → pipe_at n q ≡ pipe_at m q
    run-left fd c x run s q fits runs opens going =
        pipe-left worker_set laws m n e r q step reads writes
        (former_of (pipe_at m q).reading (pipe_at m q).writing (order.all_stand server run.from (on.ReadEnd q) opens))
      where
        f : FitsRun site_contents worker_set m (p.came c) (p.sent c) fd c x (InProgress run s) process_slots
        f =
            subst (λ (o : Option Running). FitsBy site_contents worker_set o m (p.came c) (p.sent c) fd c x
            process_slots) runs fits

        in_domain : (run.worker < worker_set.count) × (f.job_queue.process_slot.by ≡ worker_domain run.worker)
        in_domain = all.job_queues.by run.worker f.job_queue.process_slot f.job_queue.sits

        reads : (d : ℕ) → is_call_of e d ≡ true → HasNotEnd m d (on.ReadEnd q)
        reads d is g there =
            other-than d server is not_server (order.one d server g run.from (on.ReadEnd q) refl there opens).0

        writes : (d : ℕ) → is_call_of e d ≡ true → HasNotEnd m d (on.WriteEnd q)
        writes d is =
            at-step-writes worker_set laws m order f.job_queue.process_slot run q opens d
            (other-than d server is not_server)
            (λ same. other-than d (worker_domain run.worker) is (not_worker run.worker in_domain.0) (same
            ∙ in_domain.1))
            _ f.wanted _ f.so_far s f.has.1 f.job_queue.at_step going

    -- the objects of a client are unchanged
    pub one-left : (fd : ℕ) (x : Client) → FitsAt site_contents worker_set m p fd x process_slots
        → LeavesOne worker_set m n e fd x
    one-left fd x at = record {
      own = none-touched m e server fd not_server;
      aggs = λ a used. none-given e server a not_server;
      fds = λ g used. none-touched m e server g not_server;
      site = site;
      others = λ k lt runs. not_worker k lt;
      job_queues = λ k lt runs. job_queue-left k lt;
      pipe = λ run s q runs opens has apart going. run-left fd at.conn x run s q at.fits runs opens going;
    }

    -- a free worker stays free
    pub free-left : (k : ℕ) (process_slot : ProcessSlot worker_set.Worker)
        → slice_get process_slots k ≡ Some process_slot → is_free clients k ≡ true
        → worker_set.Free n (worker_set.job_queue k) process_slot
    free-left k process_slot sits free =
        let in_domain = all.job_queues.by k process_slot sits in
        laws.workers.free_others m n (worker_set.job_queue k) process_slot e r fixed.placed step
        (subst (λ d. is_call_of e d ≡ false) (sym in_domain.1) (not_worker k in_domain.0))
        (job_queue-left k in_domain.0) (all.free k process_slot sits free)

    -- and all workers stay at their job queues
    pub job_queues-left : AreAtJobQueues worker_set n process_slots
    job_queues-left = record {
      in_slots = all.job_queues.in_slots;
      by = all.job_queues.by;
      job_queues =
          λ k lt. (laws.the.steps.leaves m n e r step).fds server (job_pipe k) (on.WriteEnd (worker_set.job_queue k))
          (all.job_queues.job_queues k lt) (none-touched m e server (job_pipe k) not_server);
    }
