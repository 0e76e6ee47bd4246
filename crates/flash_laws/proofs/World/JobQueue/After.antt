-- The worker of a run after the server's own call for it.
use Rattle.std.proofs.Common.{◌≡◌, ℕ, List, Some, true, false, slice_get, ap, ◌∙◌, refl, sym, subst}
use Rattle.std.specs.Prelude.{◌==◌}
use Rattle.iol_core.specs.State.{State, conn_at, is_gone}
use Rattle.iol_proc.specs.declared.process_slot.ProcessSlot.{ProcessSlot}
use Rattle.flash_http.specs.Request.{Wanted}
use Rattle.flash_cgi.specs.Expected.{Made}
use Rattle.flash_laws.specs.Client.Fits.{response_to}
use Rattle.flash_laws.specs.Workers.WorkerSet.{WorkerSet}
use Rattle.flash_laws.specs.Site.Places.{has_worker}
use Rattle.flash_laws.specs.Run.Fits.{Progress, MayAnswer}
use Rattle.flash_laws.specs.Run.OfferedBytes.{breaks_off}
use Rattle.flash_laws.specs.Run.WorkerStates.{HasWorkerAt, IsAtStep}
use Rattle.flash_laws.specs.declared.script_run.Run.{Run}
use Rattle.flash_laws.specs.declared.script_run.Step.{Step}
use Rattle.flash_laws.specs.declared.script_run.Running.{Running}
use Rattle.flash_laws.specs.declared.script_run.Running.TheVariants.{InProgress}
use Rattle.flash_laws.proofs.Lists.{clash}

-- the worker of a run after the call
pub record JobQueueAfter (worker_set : WorkerSet) (m n : State) (c : ℕ)
    (process_slots : List (ProcessSlot worker_set.Worker)) (w : Wanted)
    (made : Made) (y z : Running) (o after : Progress) : Type 0 where
  -- the invariant of the run's worker
  pub job_queue : HasWorkerAt worker_set n process_slots made after z
  -- a worker that ran it, and no longer does, is free
  pub freed : (k : ℕ) (process_slot : ProcessSlot worker_set.Worker) → slice_get process_slots k ≡ Some process_slot
      → has_worker y k ≡ true → has_worker z k ≡ false
      → worker_set.Free n (worker_set.job_queue k) process_slot
  -- the expected response stays possible, unless the run was broken off before or is broken off now; the latter happens
  -- only if the peer is gone
  pub may : breaks_off y ≡ false → breaks_off z ≡ false → MayAnswer w o (response_to w made)
      → MayAnswer w after (response_to w made)
  pub cut : breaks_off y ≡ false → breaks_off z ≡ true → is_gone (conn_at m c).peer ≡ true

-- over a call the expected response stays possible, and the run is broken off only if the peer is gone
abbrev pub MayOn : (expected : List ℕ) → Wanted → (y z : Running) → (o after : Progress) → Type 0
MayOn expected w y z o after = breaks_off y ≡ false → breaks_off z ≡ false → MayAnswer w o expected
    → MayAnswer w after expected

abbrev pub CutBy : State → (c : ℕ) → (y z : Running) → Type 0
CutBy m c y z = breaks_off y ≡ false → breaks_off z ≡ true → is_gone (conn_at m c).peer ≡ true

pub may_same : (expected : List ℕ) (w : Wanted) (y z : Running) (o after : Progress) → after ≡ o
    → MayOn expected w y z o after
may_same expected w y z o after same was now may = subst (λ (p : Progress). MayAnswer w p expected) (sym same) may

pub cut_same : (m : State) (c : ℕ) (y z : Running) → breaks_off z ≡ breaks_off y → CutBy m c y z
cut_same m c y z same was now = absurd (clash (breaks_off z) now (same ∙ was))

pub cut_whole : (m : State) (c : ℕ) (y z : Running) → breaks_off z ≡ false → CutBy m c y z
cut_whole m c y z whole was now = absurd (clash (breaks_off z) now whole)

module _ (worker_set : WorkerSet) (m n : State) (c : ℕ) (process_slots : List (ProcessSlot worker_set.Worker))
    (w : Wanted) (made : Made) (o after : Progress) where
  abbrev After : Running → Running → Type 0
  After y z = JobQueueAfter worker_set m n c process_slots w made y z o after

  -- the run continues with its worker
  pub proceeds : (run next : Run) (step later : Step) (process_slot : ProcessSlot worker_set.Worker)
      → next.worker ≡ run.worker → slice_get process_slots next.worker ≡ Some process_slot
      → IsAtStep worker_set n process_slot next made after later
      → MayOn (response_to w made) w (InProgress run step) (InProgress next later) o after
      → CutBy m c (InProgress run step) (InProgress next later)
      → After (InProgress run step) (InProgress next later)
  proceeds run next step later process_slot same sits at_step may cut = record {
    job_queue = record { process_slot = process_slot; sits = sits; at_step = at_step };
    freed = λ k other at was now. absurd (clash (run.worker == k) was (ap (λ j. j == k) (sym same) ∙ now));
    may = may;
    cut = cut;
  }

  -- the run continues, and its output so far is unchanged
  pub same_on : (run : Run) (step later : Step) (process_slot : ProcessSlot worker_set.Worker)
      → slice_get process_slots run.worker ≡ Some process_slot → after ≡ o
      → CutBy m c (InProgress run step) (InProgress run later)
      → IsAtStep worker_set n process_slot run made after later → After (InProgress run step) (InProgress run later)
  same_on run step later process_slot sits same cut at_step =
      proceeds run run step later process_slot refl sits at_step
      (may_same (response_to w made) w (InProgress run step) (InProgress run later) o after same) cut
