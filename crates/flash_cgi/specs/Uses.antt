-- The descriptors and aggregates of a worker: exactly those that its current call uses.
use Rattle.std.specs.Prelude.{◌≡◌, ℕ, ◌==◌, ◌||◌, ◌&&◌, not, Bool, false, Option, Some, None, IsTrue, IsFalse}
use Rattle.iol_core.specs.State.{State, descriptor, is_live}
use Rattle.iol_core.specs.Run.{StepsTo}
use Rattle.iol_core.specs.declared.events.Event.TheVariants as event
use Rattle.iol_core.specs.declared.events.Reply.{Reply}
use Rattle.iol_core.specs.declared.events.Reply.TheVariants as reply
use Rattle.iol_laws.specs.Caller.{readable_at}
use Rattle.iol_laws.specs.Order.{IsOrderly}
use Rattle.iol_proc.specs.Turns.{ProcessSlotTurn}
use Rattle.iol_proc.specs.World.{copying}
use Rattle.iol_proc.specs.declared.process_slot.ProcessSlot.{ProcessSlot}
use Rattle.flash_cgi.specs.Collecting.{Collected}
use Rattle.flash_cgi.specs.Job.{Task}
use Rattle.flash_cgi.specs.Turns.{step_of}
use Rattle.flash_cgi.specs.WorkerSteps.{call_at, after_reply}
use Rattle.flash_cgi.specs.Works.{worker_turns}
use Rattle.flash_cgi.specs.declared.phase.Phase.{Phase}
use Rattle.flash_cgi.specs.declared.phase.Phase.TheVariants as phase
use Rattle.flash_cgi.specs.declared.phase.Standing.{Standing}
use Rattle.flash_cgi.specs.declared.phase.Standing.TheVariants as standing
use Rattle.flash_cgi.specs.declared.phase.Step.{Step}
use Rattle.flash_cgi.specs.declared.worker.Worker.{Worker}

-- whether it uses this descriptor: that of the output, while it has a job, or of an open file
abbrev pub uses_fd : Task → Phase → (fd : ℕ) → Bool
uses_fd job phase.Waiting fd = false
uses_fd job (phase.DroppingOther agg) fd = false
uses_fd job (phase.Reading file p) fd = (job.fd == fd) || (file == fd)
uses_fd job (phase.DroppingCounted file agg s) fd = (job.fd == fd) || (file == fd)
uses_fd job (phase.ClosingFile file agg) fd = (job.fd == fd) || (file == fd)
uses_fd job (phase.ClosingCounted file s) fd = (job.fd == fd) || (file == fd)
uses_fd job x fd = job.fd == fd

abbrev pub is_one : Option ℕ → (agg : ℕ) → Bool
is_one None a = false
is_one (Some b) a = b == a

-- whether this aggregate is part of the buffered output
abbrev pub has_collected : Collected → (agg : ℕ) → Bool
has_collected x a = is_one x.held a || is_one x.next a

-- whether it uses this aggregate
abbrev pub uses_agg : Collected → Phase → (agg : ℕ) → Bool
uses_agg x phase.Waiting a = false
uses_agg x (phase.DroppingOther agg) a = agg == a
uses_agg x phase.Interpreting a = has_collected x a
uses_agg x (phase.Reading file p) a = is_one x.held a
uses_agg x (phase.ClosingCounted file s) a = is_one x.held a
uses_agg x (phase.DroppingCounted file agg s) a = (agg == a) || is_one x.held a
uses_agg x (phase.ClosingFile file agg) a = (agg == a) || is_one x.held a
uses_agg x (phase.JoiningFile held agg from len) a = (held == a) || (agg == a)
uses_agg x (phase.CuttingPart held agg from) a = (held == a) || ((agg == a) || is_one x.next a)
uses_agg x (phase.ReplacingPart agg part at) a = (agg == a) || ((part == a) || has_collected x a)
uses_agg x (phase.DroppingText agg part made) a = (agg == a) || ((part == a) || ((made == a) || has_collected x a))
uses_agg x (phase.DroppingPart part made) a = (part == a) || ((made == a) || has_collected x a)
uses_agg x (phase.Writing agg) a = (agg == a) || has_collected x a
uses_agg x (phase.CuttingRest agg from to) a = (agg == a) || has_collected x a
uses_agg x (phase.DroppingWritten agg) a = (agg == a) || has_collected x a
uses_agg x (phase.Aborting agg) a = (agg == a) || has_collected x a
uses_agg x (phase.DroppingTaken agg rest) a = (agg == a) || ((rest == a) || has_collected x a)

-- in addition to the descriptors and aggregates of these numbers, it has only those that it uses
pub record HasJust (m : State) (d : ℕ) (fds aggs : ℕ → Bool) (job : Task) (x : Collected) (phase : Phase) : Type 0 where
  pub no_fd : (fd : ℕ) → IsFalse (fds fd) → IsFalse (uses_fd job phase fd) → descriptor m d fd ≡ None
  pub no_agg : (a : ℕ) → IsFalse (aggs a) → IsFalse (uses_agg x phase a) → readable_at m d a ≡ None

-- ---- between two turns

-- its phase after its last reply is processed, by which its aggregates are determined: a text just read does not yet
-- count as a job
abbrev pub held_phase : Standing → Phase → Reply → Step → Phase
held_phase standing.Asked phase.Waiting (reply.Agg agg) step = phase.DroppingOther agg
held_phase s x r step = step.phase

abbrev pub KeepsJust : State → (fds aggs : ℕ → Bool) → ProcessSlot Worker → Type 0
KeepsJust m fds aggs process_slot =
    HasJust m process_slot.by fds aggs process_slot.process.job (step_of m process_slot).piece
    (held_phase process_slot.process.standing process_slot.process.step.phase process_slot.last
    (step_of m process_slot))

-- A worker has only the descriptors and aggregates that it uses. So after the end of its script, while it waits, it has
-- only its job pipe, as before its job.
pub record WorkersKeepNothing : Type 0 where
  -- after its call it has what it then uses
  pub calls : (m n : State) (d : ℕ) (fds aggs : ℕ → Bool) (job : Task) (step next : Step) (r : Reply) → IsOrderly m
      → IsTrue (is_live m d) → HasJust m d fds aggs job step.piece step.phase
      → StepsTo m (event.Call d (call_at job step)) r n
      → after_reply job step (readable_at n d) r ≡ Some next → HasJust n d fds aggs job next.piece next.phase
  -- the same after each of its turns, including those that read a job or a text that is no job
  pub turns : (m n : State) (fds aggs : ℕ → Bool) (process_slot next : ProcessSlot Worker) (yields : Bool) (r : Reply)
      → IsOrderly m
      → IsTrue (is_live m process_slot.by) → KeepsJust m fds aggs process_slot
      → ProcessSlotTurn copying worker_turns m process_slot yields r n next
      → KeepsJust n fds aggs next
  -- the output descriptor belongs to the job, though another domain gave it: after the script the worker does not have
  -- it any more
  pub output : (m : State) (d : ℕ) (fds aggs : ℕ → Bool) (job : Task) (x : Collected) (phase : Phase)
      → IsTrue (uses_fd job phase job.fd) → HasJust m d fds aggs job x phase
      → HasJust m d (λ fd. fds fd && not (job.fd == fd)) aggs job x phase
