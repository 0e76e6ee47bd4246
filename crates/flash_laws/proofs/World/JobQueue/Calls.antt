-- The parts of a worker that the server's own call leaves unchanged: its pipes, its files, and its other objects.
use Rattle.std.proofs.Common.{◌≡◌, ℕ, List, [], ◌∷◌, ap, ◌∙◌, refl, sym, subst, arith, Some, true, false, slice_get}
use Rattle.std.specs.Prelude.{◌==◌, ◌||◌}
use Rattle.std.specs.List.{list_any}
use Rattle.iol_core.specs.State.{State, descriptor, pipe_at}
use Rattle.iol_core.specs.Run.{StepsTo}
use Rattle.iol_core.specs.declared.descriptors.Descriptor.{Descriptor}
use Rattle.iol_core.specs.declared.descriptors.Descriptor.TheVariants as on
use Rattle.iol_core.specs.declared.events.Call.{Call}
use Rattle.iol_core.specs.declared.events.Call.TheVariants as call
use Rattle.iol_core.specs.declared.events.Event.TheVariants as event
use Rattle.iol_core.specs.declared.events.Reply.{Reply}
use Rattle.iol_laws.specs.Frame.{Leaves, touches_fd, touches_pipe, is_end, changes_files, admits_to}
use Rattle.iol_laws.specs.Order.{IsOrderly}
use Rattle.iol_proc.specs.declared.process_slot.ProcessSlot.{ProcessSlot}
use Rattle.flash_cgi.specs.Beside.{is_call_of, LeavesFiles, LeavesWorker}
use Rattle.flash_cgi.specs.Expected.{Made, text_of}
use Rattle.flash_laws.specs.Workers.WorkerSet.{WorkerSet, IsFixedFor}
use Rattle.flash_laws.specs.Run.Fits.{Progress}
use Rattle.flash_laws.specs.Run.Holdings.{may_make, KeepsToItself}
use Rattle.flash_laws.specs.Run.{worker_domain}
use Rattle.flash_laws.specs.Site.ClientConsistency.{AreAtJobQueues}
use Rattle.flash_laws.specs.SiteContents.{SiteContents}
use Rattle.flash_laws.specs.Site.{server}
use Rattle.flash_laws.specs.Run.WorkerStates.{IsReadyFor, IsGiven, IsDelivering, HasDelivered, IsToCome}
use Rattle.flash_laws.specs.declared.script_run.Run.{Run}
use Rattle.flash_laws.specs.declared.script_run.Running.{Running}
use Rattle.flash_laws.proofs.Lists.{not-equal}
use Rattle.flash_laws.proofs.Run.Parts.{no-position}
use Rattle.flash_laws.proofs.World.AllLaws.{AllLaws}

-- ---- calls that touch no pipe, and move no descriptor

-- calls on aggregates, and a write to the client's connection
abbrev pub TouchesNoPipe : (fd : ℕ) → Call → Type 0
TouchesNoPipe fd (call.AggMake bytes) = Unit {0}
TouchesNoPipe fd (call.AggCut a from to) = Unit {0}
TouchesNoPipe fd (call.AggJoin a b) = Unit {0}
TouchesNoPipe fd (call.AggReplace a from to b) = Unit {0}
TouchesNoPipe fd (call.AggDrop a) = Unit {0}
TouchesNoPipe fd (call.IolWrite g a) = g ≡ fd
TouchesNoPipe fd k = ⊥

-- all pipes and the server's descriptors are unchanged
pub record Still (m n : State) : Type 0 where
  pub pipes : (p : ℕ) → pipe_at n p ≡ pipe_at m p
  pub fds : (g : ℕ) (x : Descriptor) → descriptor m server g ≡ Some x → descriptor n server g ≡ Some x

module _ (m : State) (fd c : ℕ) (open_on : descriptor m server fd ≡ Some (on.Connection c)) where
  at_conn : (g : ℕ) → g ≡ fd → descriptor m server g ≡ Some (on.Connection c)
  at_conn g same = ap (λ z. descriptor m server z) same ∙ open_on

  untouched : (k : Call) → TouchesNoPipe fd k → (p : ℕ) → touches_pipe m (event.Call server k) p ≡ false
  untouched (call.AggMake bytes) touches_none p = refl
  untouched (call.AggCut a from to) touches_none p = refl
  untouched (call.AggJoin a b) touches_none p = refl
  untouched (call.AggReplace a from to b) touches_none p = refl
  untouched (call.AggDrop a) touches_none p = refl
  untouched (call.IolWrite g a) touches_none p =
      ap (λ o. list_any (is_end p) (o ∷ []) || false) (at_conn g touches_none)
  untouched k touches_none p = absurd touches_none

  unmoved : (k : Call) → TouchesNoPipe fd k → (g : ℕ) → touches_fd m (event.Call server k) server g ≡ false
  unmoved (call.AggMake bytes) touches_none g = refl
  unmoved (call.AggCut a from to) touches_none g = refl
  unmoved (call.AggJoin a b) touches_none g = refl
  unmoved (call.AggReplace a from to b) touches_none g = refl
  unmoved (call.AggDrop a) touches_none g = refl
  unmoved (call.IolWrite f a) touches_none g = no-position m f g (on.Connection c) (at_conn f touches_none) refl
  unmoved k touches_none g = absurd touches_none

  pub still : (n : State) (k : Call) → Leaves m (event.Call server k) n → TouchesNoPipe fd k → Still m n
  still n k leaves touches_none = record {
    pipes = λ p. leaves.pipes p (untouched k touches_none p);
    fds = λ g x is. leaves.fds server g x is (unmoved k touches_none g);
  }

-- ---- the calls of a run

no_admit : (k : Call) (q : ℕ) → may_make k ≡ true → admits_to (event.Call server k) q ≡ false
no_admit (call.PoolAdmit p d) q may = absurd (cc (may))
no_admit k q may = refl

-- a call of the server that makes and writes no file, and admits no domain
pub record OwnCall (site_contents : SiteContents) (worker_set : WorkerSet) (m n : State) (k : Call) (r : Reply)
    (process_slots : List (ProcessSlot worker_set.Worker)) : Type 0 where
  pub order : IsOrderly m
  pub fixed : IsFixedFor site_contents worker_set m
  pub job_queues : AreAtJobQueues worker_set m process_slots
  pub step : StepsTo m (event.Call server k) r n
  pub files : changes_files m (event.Call server k) ≡ false
  pub admits : (q : ℕ) → admits_to (event.Call server k) q ≡ false

pub own_call : (site_contents : SiteContents) (worker_set : WorkerSet) (m n : State) (fd c : ℕ) (y : Running) (k : Call)
    (r : Reply) (process_slots : List (ProcessSlot worker_set.Worker)) → IsOrderly m
    → IsFixedFor site_contents worker_set m → AreAtJobQueues worker_set m process_slots
    → StepsTo m (event.Call server k) r n → KeepsToItself m fd c y k
    → OwnCall site_contents worker_set m n k r process_slots
own_call site_contents worker_set m n fd c y k r process_slots order fixed job_queues step keeps = record {
  order = order;
  fixed = fixed;
  job_queues = job_queues;
  step = step;
  files = keeps.files;
  admits = λ q. no_admit k q keeps.kind;
}

no_worker : (worker : ℕ) → (server == worker_domain worker) ≡ false
no_worker worker = not-equal server (worker_domain worker) (λ e. omega (arith, e))

module _ (site_contents : SiteContents) (worker_set : WorkerSet) (laws : AllLaws worker_set) (m n : State) (k : Call)
    (r : Reply) (process_slots : List (ProcessSlot worker_set.Worker))
    (h : OwnCall site_contents worker_set m n k r process_slots) where
  pub leaves : Leaves m (event.Call server k) n
  leaves = laws.the.steps.leaves m n (event.Call server k) r h.step

  module _ (worker : ℕ) (process_slot : ProcessSlot worker_set.Worker)
      (sits : slice_get process_slots worker ≡ Some process_slot) where
    pub other : is_call_of (event.Call server k) process_slot.by ≡ false
    other = subst (λ d. (server == d) ≡ false) (sym (h.job_queues.by worker process_slot sits).1) (no_worker worker)

    pub own_things : LeavesWorker m process_slot.by n
    own_things = laws.receive.leave m n process_slot.by (event.Call server k) r h.fixed.placed h.step other

    pub own_files : LeavesFiles m process_slot.by n
    own_files = laws.receive.files m n process_slot.by (event.Call server k) r h.fixed.files h.step h.files h.admits

    -- a free worker stays free if its job queue is unchanged
    pub free_on : pipe_at n (worker_set.job_queue worker) ≡ pipe_at m (worker_set.job_queue worker)
        → worker_set.Free m (worker_set.job_queue worker) process_slot
        → worker_set.Free n (worker_set.job_queue worker) process_slot
    free_on same free = laws.workers.free_others m n (worker_set.job_queue worker) process_slot (event.Call server k) r
        h.fixed.placed h.step other same free

  -- likewise the objects of the worker of a run
  module _ (run : Run) (process_slot : ProcessSlot worker_set.Worker)
      (sits : slice_get process_slots run.worker ≡ Some process_slot) where
    pub ready_on : ((p : ℕ) → pipe_at n p ≡ pipe_at m p) → (ready : IsReadyFor worker_set m process_slot run)
        → descriptor n server run.from ≡ Some (on.ReadEnd ready.has.pipe)
        → IsReadyFor worker_set n process_slot run
    ready_on stay ready reads = record {
      free = free_on run.worker process_slot sits (stay (worker_set.job_queue run.worker)) ready.free;
      has = record { pipe = ready.has.pipe; reads = reads; apart = ready.has.apart };
      new = stay ready.has.pipe ∙ ready.new;
    }

    pub given_on : Still m n → (f : ℕ) → IsGiven worker_set m process_slot run f
        → IsGiven worker_set n process_slot run f
    given_on stays f given = record {
      ready = record {
        free = free_on run.worker process_slot sits (stays.pipes (worker_set.job_queue run.worker)) given.ready.free;
        has =
            record {
              pipe = given.ready.has.pipe;
              reads = stays.fds run.from (on.ReadEnd given.ready.has.pipe) given.ready.has.reads;
              apart = given.ready.has.apart;
            };
        new = stays.pipes given.ready.has.pipe ∙ given.ready.new;
      };
      writes = (own_things run.worker process_slot sits).fds f (on.WriteEnd given.ready.has.pipe) given.writes;
    }

    pub putting_on : Still m n → (made : Made) (o after : Progress)
        → (was : IsDelivering worker_set m process_slot run made o) → IsToCome after (text_of made) was.more
        → IsDelivering worker_set n process_slot run made after
    putting_on stays made o after was to_come = record {
      has = record {
        pipe = was.has.pipe;
        reads = stays.fds run.from (on.ReadEnd was.has.pipe) was.has.reads;
        apart = was.has.apart;
      };
      more = was.more;
      delivers_text = laws.texts.left m n (worker_set.job_queue run.worker) was.has.pipe process_slot
          (event.Call server k) r
          made was.more h.order h.fixed.placed h.step (other run.worker process_slot sits)
          (own_files run.worker process_slot sits) (stays.pipes (worker_set.job_queue run.worker))
          (stays.pipes was.has.pipe) was.delivers_text;
      to_come = to_come;
    }

    pub put_on : pipe_at n (worker_set.job_queue run.worker) ≡ pipe_at m (worker_set.job_queue run.worker)
        → (made : Made) (o after : Progress) → after ≡ o
        → HasDelivered worker_set m process_slot run made o → HasDelivered worker_set n process_slot run made after
    put_on same made o after stays was =
        subst (λ (p : Progress). HasDelivered worker_set n process_slot run made p) (sym stays)
        (record { free = free_on run.worker process_slot sits same was.free; whole = was.whole })
