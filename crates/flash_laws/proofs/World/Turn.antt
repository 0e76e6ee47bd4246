-- A turn of the server preserves the invariants of all its clients, and of all workers.
use Rattle.std.proofs.Common.{inl, inr, ◌≡◌, ◌≢◌, ◌<◌, ℕ, ◌==◌, ◌≤◌, ◌⊎◌, List, ap, ◌∙◌, refl, sym, subst, arith}
use Rattle.std.proofs.Common.{Option, Some, true, false, Bool, slice_get}
use Rattle.std.proofs.lemmas.Bool.{cases_eq}
use Rattle.std.proofs.lemmas.Bool.Decides.{nat_tests}
use Rattle.iol_core.specs.NumberedLists.{in_place, lowest}
use Rattle.iol_core.specs.State.{State, descriptor, conn_at, pipe_at}
use Rattle.iol_core.specs.declared.descriptors.Descriptor.TheVariants as on
use Rattle.iol_core.specs.declared.events.Call.{Call}
use Rattle.iol_core.specs.declared.events.Event.TheVariants as event
use Rattle.iol_laws.specs.Order.{IsOrderly}
use Rattle.iol_laws.proofs.Places.{lowest-free}
use Rattle.iol_proc.specs.declared.process_slot.ProcessSlot.{ProcessSlot}
use Rattle.flash_cgi.specs.Beside.{is_call_of}
use Rattle.flash_laws.specs.Client.{Client, uses_agg}
use Rattle.flash_laws.specs.Client.Holdings.{has_fd}
use Rattle.flash_laws.specs.Workers.WorkerSet.{WorkerSet}
use Rattle.flash_laws.specs.Site.Past.{Past}
use Rattle.flash_laws.specs.Site.Places.{EachHasItsOwn, is_run_by, is_free}
use Rattle.flash_laws.specs.Run.{worker_domain, job_pipe}
use Rattle.flash_laws.specs.Site.ClientConsistency.{Held, Aside, AreAtJobQueues, FitsAt, AllFit}
use Rattle.flash_laws.specs.SiteContents.{SiteContents}
use Rattle.flash_laws.specs.Site.{server}
use Rattle.flash_laws.specs.Site.OtherConns.{with_at}
use Rattle.flash_laws.specs.declared.script_run.Run.{Run}
use Rattle.flash_laws.specs.declared.script_run.Step.{Step}
use Rattle.flash_laws.specs.declared.script_run.Step.TheVariants.{GivingPipe, WritingJob, ClosingPipe}
use Rattle.flash_laws.specs.declared.script_run.Running.{Running}
use Rattle.flash_laws.specs.declared.script_run.Running.TheVariants.{AwaitingWorker, InProgress}
use Rattle.flash_laws.proofs.Site.InPlaces.{at-same, at-other}
use Rattle.flash_laws.proofs.Site.Peers.{IsAfterReply}
use Rattle.flash_laws.proofs.World.AllLaws.{AllLaws}
use Rattle.flash_laws.proofs.World.Calls.{MayTouchPipe}
use Rattle.flash_laws.proofs.Lists.{clash}
use Rattle.flash_laws.proofs.Site.OwnWorkers.{free-runs, runs-for}
use Rattle.flash_laws.proofs.World.JobQueue.Jobs.{reads-jobs}

-- ---- one place changes

module _ (site_contents : SiteContents) (worker_set : WorkerSet) (m n : State) (p : Past)
    (clients : List (Option Client)) (fd : ℕ) (o : Option Client) (process_slots : List (ProcessSlot worker_set.Worker))
  where
    pub replaced : AllFit site_contents worker_set m p clients process_slots → m.next_conn ≤ n.next_conn
        → ((y : Client) → o ≡ Some y → FitsAt site_contents worker_set n p fd y process_slots)
        → ((gd : ℕ) (y : Client) → fd ≢ gd → in_place clients gd ≡ Some y
        → FitsAt site_contents worker_set n p gd y process_slots)
        → ((c : ℕ) → Held n (with_at clients fd o) c ⊎ Aside site_contents p c (conn_at n c))
        → ((c : ℕ) → IsAfterReply (p.gone c) (conn_at n c))
        → ((gd a : ℕ) (y z : Client) → fd ≢ gd → o ≡ Some y → in_place clients gd ≡ Some z → uses_agg y a ≡ true
        → uses_agg z a ≡ true → ⊥)
        → ((gd a : ℕ) (y z : Client) → fd ≢ gd → o ≡ Some y → in_place clients gd ≡ Some z → has_fd y a ≡ true
        → has_fd z a ≡ true → ⊥)
        → EachHasItsOwn worker_set.count (with_at clients fd o)
        → ((k : ℕ) (process_slot : ProcessSlot worker_set.Worker) → slice_get process_slots k ≡ Some process_slot
        → is_free (with_at clients fd o) k ≡ true → worker_set.Free n (worker_set.job_queue k) process_slot)
        → AreAtJobQueues worker_set n process_slots
        → AllFit site_contents worker_set n p (with_at clients fd o) process_slots
    replaced all rises here there others left mixed_agg mixed_fd own free job_queues = record {
      each = λ gd y is. elim (cases_eq fd gd) [
        | inl same ↦ subst (λ g. FitsAt site_contents worker_set n p g y process_slots) same
            (here y (mine gd y same is))
        | inr differ ↦ there gd y differ (old gd y differ is)
      ];
      others = others;
      aggs_apart = apart (λ y a. uses_agg y a) mixed_agg all.aggs_apart;
      fds_apart = apart (λ y g. has_fd y g) mixed_fd all.fds_apart;
      left = left;
      fresh = λ c more. all.fresh c (omega (arith, rises, more));
      unreported = λ c more. all.unreported c (omega (arith, rises, more));
      own = own;
      free = free;
      job_queues = job_queues;
    }
      where
        mine : (gd : ℕ) (y : Client) → fd ≡ gd → in_place (with_at clients fd o) gd ≡ Some y → o ≡ Some y
        mine gd y same is = sym (at-same clients fd o)
            ∙ subst (λ g. in_place (with_at clients fd o) g ≡ Some y) (sym same) is

        old : (gd : ℕ) (y : Client) → fd ≢ gd → in_place (with_at clients fd o) gd ≡ Some y
            → in_place clients gd ≡ Some y
        old gd y differ is = sym (at-other clients fd gd o differ) ∙ is

        -- no two clients use the same object
        apart : (uses : Client → ℕ → Bool)
            → ((gd a : ℕ) (y z : Client) → fd ≢ gd → o ≡ Some y → in_place clients gd ≡ Some z → uses y a ≡ true
            → uses z a ≡ true → ⊥)
            → ((gd hd a : ℕ) (y z : Client) → in_place clients gd ≡ Some y → in_place clients hd ≡ Some z
            → uses y a ≡ true → uses z a ≡ true → gd ≡ hd)
            → (gd hd a : ℕ) (y z : Client) → in_place (with_at clients fd o) gd ≡ Some y
            → in_place (with_at clients fd o) hd ≡ Some z
            → uses y a ≡ true → uses z a ≡ true → gd ≡ hd
        apart uses mixed was gd hd a y z is_y is_z uses_y uses_z = elim (cases_eq fd gd) [
          | inl g ↦ elim (cases_eq fd hd) [
            | inl k ↦ sym g ∙ k
            | inr k ↦ absurd (mixed hd a y z k (mine gd y g is_y) (old hd z k is_z) uses_y uses_z)
          ]
          | inr g ↦ elim (cases_eq fd hd) [
            | inl k ↦ absurd (mixed gd a z y g (mine hd z k is_z) (old gd y g is_y) uses_z uses_y)
            | inr k ↦ was gd hd a y z (old gd y g is_y) (old hd z k is_z) uses_y uses_z
          ]
        ]

-- a client in another place stays there
pub held-on : (m n : State) (clients : List (Option Client)) (fd k : ℕ) (o : Option Client) (held : Held m clients k)
    → fd ≢ held.fd → descriptor n server held.fd ≡ Some (on.Connection k) → Held n (with_at clients fd o) k
held-on m n clients fd k o held differ open_on =
    record {
      fd = held.fd;
      client = held.client;
      at = at-other clients fd held.fd o differ ∙ held.at;
      open_on = open_on;
    }

-- a worker that is free after a change of one place was free before, unless the old client of the place had it
pub free-unless : (clients : List (Option Client)) (fd k : ℕ) (o : Option Client)
    → ((x : Client) → in_place clients fd ≡ Some x → is_run_by x k ≡ true → ⊥)
    → is_free (with_at clients fd o) k ≡ true → is_free clients k ≡ true
free-unless clients fd k o stood free = by (is_free clients k) refl
  where
    by : (b : Bool) → is_free clients k ≡ b → is_free clients k ≡ true
    by true is = is
    by false busy =
        let ran = runs-for clients k busy in
        elim (cases_eq fd ran.fd) [
          | inr differ ↦
              absurd
              (clash (is_run_by ran.client k) ran.runs
              (free-runs (with_at clients fd o) k ran.fd ran.client free (at-other clients fd ran.fd o differ
              ∙ ran.at)))
          | inl here ↦
              absurd (stood ran.client (subst (λ g. in_place clients g ≡ Some ran.client) (sym here) ran.at) ran.runs)
        ]

-- ---- job queues

-- a call of the server is not a call of a worker
pub own-call : (k : Call) (d : ℕ) (j : ℕ) → d ≡ worker_domain j → is_call_of (event.Call server k) d ≡ false
own-call k d j is = ap (λ e. server == e) is ∙ grind (arith, nat_tests)

-- the lowest free place has no pipe
no-pipe-there : (m : State) → (pipe_at m (lowest m.pipes)).writing ≡ true → ⊥
unfolding pipe_at
no-pipe-there m is = (let none = lowest-free m.pipes in grind (arith, none, is))

pub no-reader-there : (m : State) → (pipe_at m (lowest m.pipes)).reading ≡ true → ⊥
unfolding pipe_at
no-reader-there m is = (let none = lowest-free m.pipes in grind (arith, none, is))

module _ (site_contents : SiteContents) (worker_set : WorkerSet) (laws : AllLaws worker_set) (m : State) (p : Past)
    (clients : List (Option Client)) (process_slots : List (ProcessSlot worker_set.Worker)) (order : IsOrderly m)
    (all : AllFit site_contents worker_set m p clients process_slots) where
  -- each worker reads its job queue, so the server does not
  pub not-job_queue : (k g : ℕ) → k < worker_set.count
      → descriptor m server g ≡ Some (on.ReadEnd (worker_set.job_queue k)) → ⊥
  not-job_queue k g lt is =
      let s = all.job_queues.in_slots k lt in
      let by = all.job_queues.by k s.0 s.1 in
      let same =
      (order.one server s.0.by g 0 (on.ReadEnd (worker_set.job_queue k)) refl is
      (reads-jobs site_contents worker_set laws m p clients process_slots all k s.0 s.1)).0 in
      absurd (let e = same ∙ by.1 in omega (arith, e))

  job_queue-writing : (k : ℕ) → k < worker_set.count → (pipe_at m (worker_set.job_queue k)).writing ≡ true
  job_queue-writing k lt =
      order.all_stand server (job_pipe k) (on.WriteEnd (worker_set.job_queue k)) (all.job_queues.job_queues k lt)

  -- a job queue that the call for a client may touch is that of the client's worker
  pub own-job_queue : (run : Option Running) (k : ℕ) → k < worker_set.count
      → ((y : Running) (s : Step) (v : Run) → run ≡ Some (InProgress v s) → v.worker < worker_set.count)
      → ((v : Run) (write : ℕ) → run ≡ Some (InProgress v (ClosingPipe write)) → ⊥)
      → MayTouchPipe m run (worker_set.job_queue k)
      → (v : Run) × (s : Step) × (run ≡ Some (InProgress v s)) × (v.worker ≡ k)
  own-job_queue (Some AwaitingWorker) k lt among no_returns may =
      absurd (no-pipe-there m (ap (λ j. (pipe_at m j).writing) may ∙ job_queue-writing k lt))
  own-job_queue (Some (InProgress v (WritingJob j f))) k lt among no_returns may =
      let here = all.job_queues.job_queues v.worker (among AwaitingWorker (WritingJob j f) v refl) in
      let same : worker_set.job_queue v.worker ≡ worker_set.job_queue k =
      write-inj (worker_set.job_queue v.worker) (worker_set.job_queue k) (sym here ∙ may) in
      (v, WritingJob j f, refl, laws.apart v.worker k (among AwaitingWorker (WritingJob j f) v refl) lt same)
    where
      write-inj : (a b : ℕ) → Some (on.WriteEnd a) ≡ Some (on.WriteEnd b) → a ≡ b
      write-inj a b e = cc
  own-job_queue (Some (InProgress v (ClosingPipe write))) k lt among no_returns may = absurd (no_returns v write refl)
  own-job_queue (Some (InProgress v (GivingPipe write))) k lt among no_returns may =
      absurd (not-job_queue k v.from lt may)
  own-job_queue (Some (InProgress v s)) k lt among no_returns may = absurd (not-job_queue k v.from lt may)
  own-job_queue run k lt among no_returns may = absurd may
