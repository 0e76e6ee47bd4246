-- The worker of a run after all of its output was read: it is free, and stays so to the end of the run.
use Rattle.std.proofs.Common.{◌≡◌, ℕ, List, [], ◌∷◌, ap, ◌∙◌, refl, sym, subst, arith, Option, Some, None, true, false}
use Rattle.std.proofs.Common.{Bool, slice_get}
use Rattle.std.specs.Prelude.{◌==◌, ◌||◌}
use Rattle.std.specs.List.{list_any}
use Rattle.iol_core.specs.State.{State, descriptor, pipe_at}
use Rattle.iol_core.specs.declared.descriptors.Descriptor.{Descriptor}
use Rattle.iol_core.specs.declared.descriptors.Descriptor.TheVariants as on
use Rattle.iol_core.specs.declared.events.Call.TheVariants as call
use Rattle.iol_core.specs.declared.events.Reply.{Reply}
use Rattle.iol_core.specs.declared.events.Reply.TheVariants as reply
use Rattle.iol_laws.specs.Frame.{is_end}
use Rattle.iol_proc.specs.declared.process_slot.ProcessSlot.{ProcessSlot}
use Rattle.flash_http.specs.Request.{Wanted}
use Rattle.flash_cgi.specs.Expected.{Made}
use Rattle.flash_laws.specs.Client.Fits.{response_to}
use Rattle.flash_laws.specs.Conn as conn
use Rattle.flash_laws.specs.Conn.{Following, count_of}
use Rattle.flash_laws.specs.Workers.WorkerSet.{WorkerSet}
use Rattle.flash_laws.specs.Run.Fits.{Progress}
use Rattle.flash_laws.specs.Run.OfferedBytes.{PartUpdates, breaks_off}
use Rattle.flash_laws.specs.Run.{in_phase, after_step, finishing, ending, sends_part}
use Rattle.flash_laws.specs.SiteContents.{SiteContents}
use Rattle.flash_laws.specs.Site.{server}
use Rattle.flash_laws.specs.Run.WorkerStates.{HasWorkerAt, HasDelivered, IsAtStep}
use Rattle.flash_laws.specs.declared.phase.Phase.{Phase}
use Rattle.flash_laws.specs.declared.phase.Phase.TheVariants as phase
use Rattle.flash_laws.specs.declared.script_run.Run.{Run}
use Rattle.flash_laws.specs.declared.script_run.Step.{Step}
use Rattle.flash_laws.specs.declared.script_run.Step.TheVariants.{DroppingEnd, DiscardingHeld, ClosingOutput}
use Rattle.flash_laws.specs.declared.script_run.Step.TheVariants.{DroppingFrame, MakingEnd, FillingEnd}
use Rattle.flash_laws.specs.declared.script_run.Step.TheVariants.{DroppingLast, DroppingLastFrame}
use Rattle.flash_laws.specs.declared.script_run.Running.{Running}
use Rattle.flash_laws.specs.declared.script_run.Running.TheVariants.{InProgress, Finishing, Disconnecting}
use Rattle.flash_laws.proofs.Lists.{not-equal}
use Rattle.flash_laws.proofs.Conn.Uses.{same-number}
use Rattle.flash_laws.proofs.World.AllLaws.{AllLaws}
use Rattle.flash_laws.proofs.World.JobQueue.After.{JobQueueAfter, CutBy, may_same, cut_same, cut_whole, same_on}
use Rattle.flash_laws.proofs.World.JobQueue.Calls.{OwnCall, leaves}
use Rattle.flash_laws.proofs.World.JobQueue.Reads.{part_may}

-- ---- a call on one end of a pipe touches no other

pub apart_read : (o : Option Descriptor) (p q : ℕ) → o ≡ Some (on.ReadEnd p) → (p ≡ q → ⊥)
    → (list_any (is_end q) (o ∷ []) || false) ≡ false
apart_read o p q is differ = ap (λ u. list_any (is_end q) (u ∷ []) || false) is
    ∙ ap (λ b. (b || false) || false) (not-equal p q differ)

pub apart_write : (o : Option Descriptor) (p q : ℕ) → o ≡ Some (on.WriteEnd p) → (p ≡ q → ⊥)
    → (list_any (is_end q) (o ∷ []) || false) ≡ false
apart_write o p q is differ = ap (λ u. list_any (is_end q) (u ∷ []) || false) is
    ∙ ap (λ b. (b || false) || false) (not-equal p q differ)

-- the steps after all output was read
abbrev pub HasReceivedAll : Step → Type 0
HasReceivedAll (DroppingEnd a held frame) = Unit {0}
HasReceivedAll (DiscardingHeld held frame) = Unit {0}
HasReceivedAll (ClosingOutput held frame) = Unit {0}
HasReceivedAll (DroppingFrame frame held) = Unit {0}
HasReceivedAll (MakingEnd held) = Unit {0}
HasReceivedAll (FillingEnd held size frame) = Unit {0}
HasReceivedAll (DroppingLast held chunk len frame) = Unit {0}
HasReceivedAll (DroppingLastFrame frame chunk len) = Unit {0}
HasReceivedAll step = ⊥

some_one : {A : Type 0} (a b : A) → Some a ≡ Some b → a ≡ b
some_one a b e = cc (e)

module _ (site_contents : SiteContents) (worker_set : WorkerSet) (laws : AllLaws worker_set) (m n : State) (c : ℕ)
    (process_slots : List (ProcessSlot worker_set.Worker)) (w : Wanted) (o after : Progress) where
  -- a close of the run's pipe leaves the job queue of its free worker unchanged
  pub shut_stays : (run : Run) (p : ℕ) (r : Reply) (process_slot : ProcessSlot worker_set.Worker)
      → slice_get process_slots run.worker ≡ Some process_slot
      → OwnCall site_contents worker_set m n (call.Close run.from) r process_slots
      → descriptor m server run.from ≡ Some (on.ReadEnd p)
      → worker_set.Free m (worker_set.job_queue run.worker) process_slot
      → pipe_at n (worker_set.job_queue run.worker) ≡ pipe_at m (worker_set.job_queue run.worker)
  shut_stays run p r process_slot sits h reads free =
      (leaves site_contents worker_set laws m n (call.Close run.from) r process_slots h).pipes
      (worker_set.job_queue run.worker)
      (apart_read (descriptor m server run.from) p (worker_set.job_queue run.worker) reads (λ e. differ e))
    where
      differ : p ≡ worker_set.job_queue run.worker → ⊥
      differ e =
          let open_on = subst (λ q. descriptor m server run.from ≡ Some (on.ReadEnd q)) e reads in
          let jobs = (laws.workers.none m (worker_set.job_queue run.worker) process_slot free).jobs in
          let one =
          (h.order.one server process_slot.by run.from 0 (on.ReadEnd (worker_set.job_queue run.worker)) refl open_on
          jobs).0 in
          let at = (h.job_queues.by run.worker process_slot sits).1 in
          omega (arith, one, at)

  module _ (made : Made) where
    abbrev After : Running → Running → Type 0
    After y z = JobQueueAfter worker_set m n c process_slots w made y z o after

    module _ (run : Run) (process_slot : ProcessSlot worker_set.Worker)
        (sits : slice_get process_slots run.worker ≡ Some process_slot)
        (now : HasDelivered worker_set n process_slot run made after) (same : after ≡ o) where
      to : (step later : Step) → CutBy m c (InProgress run step) (InProgress run later)
          → IsAtStep worker_set n process_slot run made after later → After (InProgress run step) (InProgress run later)
      to step later cut at_step = same_on worker_set m n c process_slots w made o after run step later process_slot sits
          same cut at_step

      freed : (k : ℕ) (next : ProcessSlot worker_set.Worker) → slice_get process_slots k ≡ Some next
          → (run.worker == k) ≡ true → worker_set.Free n (worker_set.job_queue k) next
      freed k next at was =
          let e = same-number run.worker k was in
          let one = some_one process_slot next (sym sits ∙ (ap (λ j. slice_get process_slots j) e ∙ at)) in
          subst (λ (u : ProcessSlot worker_set.Worker). worker_set.Free n (worker_set.job_queue k) u) one
          (subst (λ j. worker_set.Free n (worker_set.job_queue j) process_slot) e now.free)

      over : (step : Step) (z : Running) → HasWorkerAt worker_set n process_slots made after z
          → CutBy m c (InProgress run step) z → After (InProgress run step) z
      over step z job_queue cut = record {
        job_queue = job_queue;
        freed = λ k next at was gone. freed k next at was;
        may = may_same (response_to w made) w (InProgress run step) z o after same;
        cut = cut;
      }

      finishing_on : (step : Step) (b chunked : Bool) (held : Following) → breaks_off (InProgress run step) ≡ run.broken
          → After (InProgress run step) (finishing b chunked run held)
      finishing_on step false true held whole =
          to step (MakingEnd held) (cut_same m c (InProgress run step) (InProgress run (MakingEnd held)) (sym whole))
          now
      finishing_on step false false held whole =
          over step Disconnecting tt (cut_whole m c (InProgress run step) Disconnecting refl)
      finishing_on step true chunked held whole =
          over step Disconnecting tt (cut_whole m c (InProgress run step) Disconnecting refl)

      left_on : (step : Step) (a len : ℕ) → After (InProgress run step) (Finishing (sends_part a len))
      left_on step a len =
          over step (Finishing (sends_part a len)) tt
          (cut_whole m c (InProgress run step) (Finishing (sends_part a len)) refl)

      ending_on : (held : Following) (a len : ℕ) → After (InProgress run (MakingEnd held)) (ending run held a len)
      ending_on None a len = left_on (MakingEnd None) a len
      ending_on (Some y) a len =
          to (MakingEnd (Some y)) (FillingEnd y.0 y.1 a)
          (cut_same m c (InProgress run (MakingEnd (Some y))) (InProgress run (FillingEnd y.0 y.1 a)) refl) now

      on_to : (step later : Step) → breaks_off (InProgress run later) ≡ breaks_off (InProgress run step)
          → IsAtStep worker_set n process_slot run made after later → After (InProgress run step) (InProgress run later)
      on_to step later whole at_step =
          to step later (cut_same m c (InProgress run step) (InProgress run later) whole) at_step

      pub last_steps : (step : Step) (r : Reply) (received : List ℕ) → HasReceivedAll step
          → After (InProgress run step) (after_step w run step r received)
      last_steps (DroppingEnd a held frame) reply.Done received is =
          on_to (DroppingEnd a held frame) (ClosingOutput held frame) refl now
      last_steps (DroppingEnd a held frame) r received is =
          on_to (DroppingEnd a held frame) (DroppingEnd a held frame) refl now
      last_steps (DiscardingHeld held frame) reply.Done received is =
          on_to (DiscardingHeld held frame) (ClosingOutput None frame) refl now
      last_steps (DiscardingHeld held frame) r received is =
          on_to (DiscardingHeld held frame) (DiscardingHeld held frame) refl now
      last_steps (ClosingOutput held None) reply.Done received is =
          finishing_on (ClosingOutput held None) run.broken w.chunked held refl
      last_steps (ClosingOutput held (Some f)) reply.Done received is =
          on_to (ClosingOutput held (Some f)) (DroppingFrame f held) refl now
      last_steps (ClosingOutput held frame) r received is =
          on_to (ClosingOutput held frame) (ClosingOutput held frame) refl now
      last_steps (DroppingFrame f held) reply.Done received is =
          finishing_on (DroppingFrame f held) run.broken w.chunked held refl
      last_steps (DroppingFrame f held) r received is = on_to (DroppingFrame f held) (DroppingFrame f held) refl now
      last_steps (MakingEnd held) (reply.Agg a) received is = ending_on held a (count_of received)
      last_steps (MakingEnd held) r received is = on_to (MakingEnd held) (MakingEnd held) refl now
      last_steps (FillingEnd held size frame) (reply.Agg a) received is =
          on_to (FillingEnd held size frame) (DroppingLast held a (count_of received) frame) refl now
      last_steps (FillingEnd held size frame) r received is =
          on_to (FillingEnd held size frame) (FillingEnd held size frame) refl now
      last_steps (DroppingLast held chunk len frame) reply.Done received is =
          on_to (DroppingLast held chunk len frame) (DroppingLastFrame frame chunk len) refl now
      last_steps (DroppingLast held chunk len frame) r received is =
          on_to (DroppingLast held chunk len frame) (DroppingLast held chunk len frame) refl now
      last_steps (DroppingLastFrame frame chunk len) reply.Done received is =
          left_on (DroppingLastFrame frame chunk len) chunk len
      last_steps (DroppingLastFrame frame chunk len) r received is =
          on_to (DroppingLastFrame frame chunk len) (DroppingLastFrame frame chunk len) refl now
      last_steps step r received is = absurd is

    -- a run that no longer has a worker
    pub leaving : (d : Phase) (r : Reply) (received : List ℕ) → PartUpdates m d r o after
        → CutBy m c (Finishing d) (Finishing (conn.after_reply (in_phase w d) r received).phase)
        → After (Finishing d) (Finishing (conn.after_reply (in_phase w d) r received).phase)
    leaving d r received updates cut = record {
      job_queue = tt;
      freed = λ k next at was gone. absurd (cc (was));
      may = λ was gone may. part_may m w d r o after (response_to w made) updates was may;
      cut = cut;
    }
