-- A worker that has a job, and whose call would block, is writing to a full pipe.
use Rattle.std.proofs.Common.{inl, inr, ◌≡◌, ◌≤◌, ℕ, List, [], length, ap, ◌∙◌, refl, sym, subst, Option, Some, None}
use Rattle.std.proofs.Common.{Bool, true, false}
use Rattle.std.specs.Prelude.{if◌then◌else◌, slice_get}
use Rattle.iol_core.specs.Access.{HasAccess}
use Rattle.iol_core.specs.Text.{Text, bytes_of}
use Rattle.iol_core.specs.State.{State, descriptor, pipe_at, is_live}
use Rattle.iol_core.specs.Run.{StepsTo}
use Rattle.iol_core.specs.declared.limits.TheConstants.{MAX_QUEUE_BYTES}
use Rattle.iol_core.specs.declared.descriptors.Descriptor.TheVariants as on
use Rattle.iol_core.specs.declared.descriptors.Mode.TheVariants.{Read}
use Rattle.iol_core.specs.declared.events.Call.{Call}
use Rattle.iol_core.specs.declared.events.Call.TheVariants as call
use Rattle.iol_core.specs.declared.events.Event.TheVariants as event
use Rattle.iol_core.specs.declared.events.Reply.{Reply}
use Rattle.iol_core.specs.declared.events.Reply.TheVariants as reply
use Rattle.iol_core.specs.declared.refusals.Refusal.TheVariants.{WouldBlock}
use Rattle.iol_laws.specs.Caller.{readable_at}
use Rattle.iol_laws.specs.CallerFiles.{FileCallsServeTheirDomain}
use Rattle.iol_laws.specs.Order.{IsOrderly}
use Rattle.iol_laws.specs.Reasons.{RefusalsTellWhy}
use Rattle.iol_laws.specs.RefusalsLeft.{RefusalsThatAreLeft, may_wait}
use Rattle.iol_proc.specs.declared.process_slot.ProcessSlot.{ProcessSlot}
use Rattle.flash_cgi.specs.Collecting.{Collected}
use Rattle.flash_cgi.specs.Feeds.{Needs, IsFileOpen}
use Rattle.flash_cgi.specs.Full.{RunningIsFull}
use Rattle.flash_cgi.specs.Job.{Task, job_of}
use Rattle.flash_cgi.specs.Output.{Outcome}
use Rattle.flash_cgi.specs.Turns.{Awaits, filed_step, or_again}
use Rattle.flash_cgi.specs.Standstill.{IsBlocked, IsStuck, is_over}
use Rattle.flash_cgi.specs.WorkerSteps.{phase_call, expected_now, next_call, after_reply, after_phase}
use Rattle.flash_cgi.specs.declared.line.Line.{Line}
use Rattle.flash_cgi.specs.declared.line.Line.TheVariants as line
use Rattle.flash_cgi.specs.declared.phase.Phase.{Phase}
use Rattle.flash_cgi.specs.declared.phase.Phase.TheVariants as phase
use Rattle.flash_cgi.specs.declared.phase.Standing.{Standing}
use Rattle.flash_cgi.specs.declared.phase.Standing.TheVariants as standing
use Rattle.flash_cgi.specs.declared.phase.Step.{Step}
use Rattle.flash_cgi.specs.declared.worker.Worker.{Worker}
use Rattle.flash_cgi.proofs.JobStart.{waits_as_job}

-- no call that begins a line blocks
line_goes : (job : Task) (l : Option Line) → may_wait (next_call job l) ≡ true → ⊥
line_goes job (Some (line.Cat name)) is = cc (is)
line_goes job (Some (line.Wc name)) is = cc (is)
line_goes job (Some l) is = cc (is)
line_goes job None is = cc (is)

-- nor does the call that makes an aggregate of the buffered text
begin_goes : (job : Task) (x : Collected) (l : Option Line) (t : Bool)
    → may_wait (if t then call.AggMake x.text else next_call job l) ≡ true → ⊥
begin_goes job x l true is = cc (is)
begin_goes job x l false is = line_goes job l is

module _ (why : RefusalsTellWhy) (left : RefusalsThatAreLeft) (files : FileCallsServeTheirDomain)
    (m : State) (d p : ℕ) (order : IsOrderly m) (access : HasAccess m) (live : is_live m d ≡ true) where
  abbrev Full : Type 0
  Full = MAX_QUEUE_BYTES ≤ length (pipe_at m p).queue

  abbrev Blocks : Call → Type 0
  Blocks k = StepsTo m (event.Call d k) (reply.Refused WouldBlock) m

  -- a read of a file does not block
  file_goes : (f : ℕ) → IsFileOpen m d f → Blocks (call.IolRead f 16777216) → ⊥
  file_goes f h step =
      (let e =
      (files.reads_file m m d f h.0 h.1 16777216 Read (reply.Refused WouldBlock) order live
      (access.fds d f h.0 h.1 Read h.2) refl h.2 step).0 in cc (e))

  -- it does not wait for a job, and the file that it reads is open
  abbrev Ready : Phase → Type 0
  Ready phase.Waiting = ⊥
  Ready (phase.Reading file u) = IsFileOpen m d file
  Ready x = Unit {0}

  full_at : (job : Task) (x : Collected) (begun : ℕ) (y : Phase) → descriptor m d job.fd ≡ Some (on.WriteEnd p)
      → Ready y → Blocks (phase_call job x begun y) → Full
  full_at job x begun phase.Waiting opened h step = absurd h
  full_at job x begun phase.Interpreting opened h step =
      absurd (begin_goes job x (slice_get job.lines begun) (expected_now job x begun)
      (left.waits m m d (phase_call job x begun phase.Interpreting) step))
  full_at job x begun (phase.Reading file u) opened h step = absurd (file_goes file h step)
  full_at job x begun (phase.Writing a) opened h step = why.pipe_is_full m m d job.fd p a opened step
  full_at job x begun y opened h step = absurd (let e = left.waits m m d (phase_call job x begun y) step in cc (e))

  -- a step whose requirements are met is ready, also after a refusal WouldBlock
  ready_at : (x : Phase) → Needs m d x → Ready x
  ready_at phase.Waiting h = h
  ready_at (phase.Reading file u) h = (h.number, h.place, h.open_on)
  ready_at x h = tt

  ready_after_reply : (readable : ℕ → Option (List ℕ)) (job : Task) (step : Step) (x : Phase) → step.phase ≡ x
      → Needs m d (or_again (after_phase readable job step.piece step.begun x (reply.Refused WouldBlock)) step).phase
      → Ready x
  ready_after_reply readable job step phase.Waiting is h = subst (λ (y : Phase). Needs m d y) is h
  ready_after_reply readable job step (phase.Reading file u) is h = h
  ready_after_reply readable job step x is h = tt

  blocked_full : (w : Worker) → descriptor m d w.job.fd ≡ Some (on.WriteEnd p) → Ready w.step.phase → IsBlocked m d w
      → Full
  blocked_full w opened h step = full_at w.job w.step.piece w.step.begun w.step.phase opened h step

  runs_full : (w : Worker) (last : Reply) (s : Standing) → is_over s ≡ false
      → descriptor m d w.job.fd ≡ Some (on.WriteEnd p)
      → Needs m d (filed_step s w (readable_at m d) last).phase → IsStuck m d w last s → Full
  runs_full w last standing.Over goes opened h stuck = absurd (cc (goes))
  runs_full w last standing.Asks goes opened h stuck = blocked_full w opened (ready_at w.step.phase h) stuck
  runs_full w last standing.Asked goes opened h stuck =
      let after_reply_so =
      subst (λ (l : Reply). Needs m d (or_again (after_reply w.job w.step (readable_at m d) l) w.step).phase)
      stuck.1 h in
      blocked_full w opened (ready_after_reply (readable_at m d) w.job w.step w.step.phase refl after_reply_so) stuck.0

  -- ---- a waiting job would be read

  waits_after_reply : (readable : ℕ → Option (List ℕ)) (job : Task) (step : Step) (x : Phase) → step.phase ≡ x
      → (or_again (after_phase readable job step.piece step.begun x (reply.Refused WouldBlock)) step).phase
      ≡ phase.Waiting
      → Blocks (phase_call job step.piece step.begun x) → x ≡ phase.Waiting
  waits_after_reply readable job step phase.Waiting is h step_is = refl
  waits_after_reply readable job step phase.Interpreting is h step_is =
      absurd (begin_goes job step.piece (slice_get job.lines step.begun) (expected_now job step.piece step.begun)
      (left.waits m m d (phase_call job step.piece step.begun phase.Interpreting) step_is))
  waits_after_reply readable job step (phase.Reading file u) is h step_is = absurd (cc (h))
  waits_after_reply readable job step (phase.Writing a) is h step_is = absurd (let e = sym is ∙ h in cc (e))
  waits_after_reply readable job step x is h step_is =
      absurd (let e = left.waits m m d (phase_call job step.piece step.begun x) step_is in cc (e))

  asks_blocked : (w : Worker) (last : Reply) (s : Standing) → is_over s ≡ false
      → (filed_step s w (readable_at m d) last).phase ≡ phase.Waiting
      → IsStuck m d w last s → Blocks (call.IolRead 0 65536)
  asks_blocked w last standing.Over goes h stuck = absurd (cc (goes))
  asks_blocked w last standing.Asks goes h stuck =
      subst (λ (x : Phase). Blocks (phase_call w.job w.step.piece w.step.begun x)) h stuck
  asks_blocked w last standing.Asked goes h stuck =
      let after_reply_so =
      subst (λ (l : Reply). (or_again (after_reply w.job w.step (readable_at m d) l) w.step).phase ≡ phase.Waiting)
      stuck.1 h in
      subst (λ (x : Phase). Blocks (phase_call w.job w.step.piece w.step.begun x))
      (waits_after_reply (readable_at m d) w.job w.step w.step.phase refl after_reply_so stuck.0) stuck.0

-- a worker whose last reply is an aggregate was not refused
given_is_after_reply : (m : State) (d a : ℕ) (w : Worker) (last : Reply) (s : Standing) → s ≡ standing.Asked
    → last ≡ reply.Agg a → IsStuck m d w last s → ⊥
given_is_after_reply m d a w last standing.Asked asked is stuck = (let e = sym is ∙ stuck.1 in cc (e))
given_is_after_reply m d a w last s asked is stuck = cc (asked)

no_job : (m : State) (p : ℕ) (process_slot : ProcessSlot Worker) (unseen : List Outcome
    → List ℕ) (h : Awaits m p process_slot unseen) → (pipe_at m h.jobs).queue ≡ [] → ⊥
no_job m p process_slot unseen h empty =
    let is = sym (ap (λ (t : Text). job_of (bytes_of t)) empty)
    ∙ waits_as_job m process_slot.by h.jobs p h.fd h.query h.script h.lines h.has in
    cc (is)

pub running_is_full : RefusalsTellWhy → RefusalsThatAreLeft → FileCallsServeTheirDomain → RunningIsFull
running_is_full why left files m p process_slot unseen order access (inl h) waited =
    let step = asks_blocked why left files m process_slot.by p order access h.has.live process_slot.process
    process_slot.last process_slot.process.standing h.free.not_over h.free.waits waited in
    absurd (no_job m p process_slot unseen h (why.pipe_is_empty m m process_slot.by 0 h.jobs 65536 h.has.jobs step).0)
running_is_full why left files m p process_slot unseen order access (inr (inl h)) waited =
    absurd (given_is_after_reply m process_slot.by h.agg process_slot.process process_slot.last
    process_slot.process.standing h.asked h.last waited)
running_is_full why left files m p process_slot unseen order access (inr (inr i)) waited =
    runs_full why left files m process_slot.by p order access i.feeds.live process_slot.process process_slot.last
    process_slot.process.standing i.not_over i.feeds.open_on i.feeds.needs waited
