-- A script over the turns of its worker: from the time when its job waits to the end of its output.
use Rattle.std.specs.Prelude.{◌≡◌, ◌⊎◌, ℕ, Bool, true, false, List, [], ◌∷◌, ◌++◌, Option, Some, None, IsTrue, IsFalse}
use Rattle.std.specs.Prelude.{⊤}
use mathlib.Core.Logic.{inl, inr}
use Rattle.iol_core.specs.Text.{bytes_of}
use Rattle.iol_core.specs.State.{State, pipe_at}
use Rattle.iol_core.specs.Positions.{ArePlaced}
use Rattle.iol_core.specs.declared.events.Reply.{Reply}
use Rattle.iol_core.specs.declared.events.Reply.TheVariants as reply
use Rattle.iol_core.specs.declared.refusals.Refusal.{Refusal}
use Rattle.iol_laws.specs.Caller.{readable_at, is_resource_failure}
use Rattle.iol_laws.specs.Order.{IsOrderly}
use Rattle.iol_proc.specs.Turns.{ProcessSlotTurn}
use Rattle.iol_proc.specs.World.{copying}
use Rattle.iol_proc.specs.declared.process_slot.ProcessSlot.{ProcessSlot}
use Rattle.flash_cgi.specs.Job.{Task}
use Rattle.flash_cgi.specs.Output.{Outcome, Failed, output}
use Rattle.flash_cgi.specs.Outcomes.{AreFiles, outcomes_in, to_come, ReadsNamed}
use Rattle.flash_cgi.specs.WorkerSteps.{after_reply}
use Rattle.flash_cgi.specs.Works.{worker_turns}
use Rattle.flash_cgi.specs.Standstill.{is_over}
use Rattle.flash_cgi.specs.Feeds.{Feeds, Ends}
use Rattle.flash_cgi.specs.JobStart.{HasJob, Begins}
use Rattle.flash_cgi.specs.declared.line.Line.{Line}
use Rattle.flash_cgi.specs.declared.phase.Phase.{Phase}
use Rattle.flash_cgi.specs.declared.phase.Phase.TheVariants as phase
use Rattle.flash_cgi.specs.declared.phase.Standing.{Standing}
use Rattle.flash_cgi.specs.declared.phase.Standing.TheVariants as standing
use Rattle.flash_cgi.specs.declared.phase.Step.{Step}
use Rattle.flash_cgi.specs.declared.worker.Worker.{Worker}

-- the step after its last reply is processed: a new step, or the same call again
abbrev pub or_again : Option Step → Step → Step
or_again (Some next) step = next
or_again None step = step

abbrev pub filed_step : Standing → Worker → (ℕ → Option (List ℕ)) → Reply → Step
filed_step standing.Asked w readable last = or_again (after_reply w.job w.step readable last) w.step
filed_step s w readable last = w.step

abbrev pub step_of : State → ProcessSlot Worker → Step
step_of m process_slot = filed_step process_slot.process.standing process_slot.process (readable_at m process_slot.by)
    process_slot.last

-- whether a reply gives it a text from its job pipe
abbrev pub is_given : Phase → Reply → Bool
is_given phase.Waiting (reply.Agg agg) = true
is_given x r = false

-- The worker in this process slot has no job: its next call reads one.
pub record IsFree (m : State) (process_slot : ProcessSlot Worker) : Type 0 where
  pub not_over : IsFalse (is_over process_slot.process.standing)
  pub waits : (step_of m process_slot).phase ≡ phase.Waiting
  pub not_given : process_slot.process.standing ≡ standing.Asked
      → IsFalse (is_given process_slot.process.step.phase process_slot.last)

-- A job waits for it, and is not yet read.
pub record Awaits (m : State) (p : ℕ) (process_slot : ProcessSlot Worker) (unseen : List Outcome → List ℕ) :
    Type 0 where
  pub jobs : ℕ
  pub fd : ℕ
  pub query : List ℕ
  pub script : List ℕ
  pub lines : List Line
  pub free : IsFree m process_slot
  pub has : HasJob m process_slot.by jobs p fd query script lines
  pub is : (os : List Outcome) → unseen os ≡ bytes_of (pipe_at m p).queue ++ output query lines os

-- It has read the job, and its next turn processes that reply.
pub record HasRead (m : State) (p : ℕ) (process_slot : ProcessSlot Worker) (unseen : List Outcome → List ℕ) :
    Type 0 where
  pub job : Task
  pub agg : ℕ
  pub waits : process_slot.process.step.phase ≡ phase.Waiting
  pub asked : process_slot.process.standing ≡ standing.Asked
  pub last : process_slot.last ≡ reply.Agg agg
  pub begins : Begins m process_slot.by p job agg unseen

-- It runs the script; its last reply counts as processed.
pub record IsRunning (m : State) (p : ℕ) (process_slot : ProcessSlot Worker) (unseen : List Outcome → List ℕ) :
    Type 0 where
  pub not_over : IsFalse (is_over process_slot.process.standing)
  pub feeds : Feeds m process_slot.by p process_slot.process.job (step_of m process_slot) unseen

-- The worker in this process slot has a job with output to pipe p: for all outcomes of the files still to be read, the
-- pending output is the bytes in the pipe, followed by the bytes still to be written.
abbrev pub RunsJob : (m : State) → (p : ℕ) → ProcessSlot Worker → (unseen : List Outcome → List ℕ) → Type 0
RunsJob m p process_slot unseen = Awaits m p process_slot unseen ⊎ HasRead m p process_slot unseen
    ⊎ IsRunning m p process_slot unseen

-- the outcomes to come, with the current files and lists
abbrev pub outcomes_to_come : (m : State) (p : ℕ) (process_slot : ProcessSlot Worker) (unseen : List Outcome → List ℕ)
    → RunsJob m p process_slot unseen
    → List Outcome
outcomes_to_come m p process_slot unseen (inl h) = outcomes_in m process_slot.by h.lines
outcomes_to_come m p process_slot unseen (inr (inl h)) = outcomes_in m process_slot.by h.job.lines
outcomes_to_come m p process_slot unseen (inr (inr i)) =
    to_come m process_slot.by process_slot.process.job (step_of m process_slot)

-- the file that it is reading, if any, is the one that its line names
abbrev pub ReadsItsFile : (m : State) (p : ℕ) (process_slot : ProcessSlot Worker) (unseen : List Outcome → List ℕ)
    → RunsJob m p process_slot unseen → Type 0
ReadsItsFile m p process_slot unseen (inl h) = ⊤
ReadsItsFile m p process_slot unseen (inr (inl h)) = ⊤
ReadsItsFile m p process_slot unseen (inr (inr i)) =
    ReadsNamed m process_slot.by process_slot.process.job (step_of m process_slot).begun (step_of m process_slot).phase

-- A call for a file was refused with TooMany, NoRoom, Fault or Memory: it settles this refusal instead of the first
-- outcome to come.
pub record IsRefused (r : Reply) (expected resolved coming : List Outcome) : Type 0 where
  pub why : Refusal
  pub answer : r ≡ reply.Refused why
  pub resource_failure : IsTrue (is_resource_failure r)
  pub instead : Outcome
  pub was : expected ≡ instead ∷ coming
  pub is : resolved ≡ Failed why ∷ []

-- the outcome to come is settled, or a refusal instead of it
abbrev pub Resolves : Reply → (expected resolved coming : List Outcome) → Type 0
Resolves r expected resolved coming = (expected ≡ resolved ++ coming) ⊎ IsRefused r expected resolved coming

-- It continues, and may settle an outcome.
pub record Proceeds (m n : State) (p : ℕ) (next : ProcessSlot Worker) (r : Reply) (unseen : List Outcome → List ℕ)
    (expected : List Outcome) (Reads : Type 0) : Type 0 where
  pub resolved : List Outcome
  pub runs : RunsJob n p next (λ os. unseen (resolved ++ os))
  pub truly : ArePlaced m → AreFiles m → Reads
      → Resolves r expected resolved (outcomes_to_come n p next (λ os. unseen (resolved ++ os)) runs)
      × ReadsItsFile n p next (λ os. unseen (resolved ++ os)) runs

-- all of its output is written, the pipe's write end is closed, and it is free for the next job
pub record IsOver (m n : State) (d p : ℕ) (next : ProcessSlot Worker) (unseen : List Outcome → List ℕ) (r : Reply) :
    Type 0 where
  pub step : Step
  pub ends : Ends m d p unseen r step n
  pub free : IsFree n next

-- A turn of a worker preserves the pending output, until all of it is written or the pipe has no reader.
abbrev pub TurnsFeed : Type 0
TurnsFeed = (m n : State) (p : ℕ) (process_slot next : ProcessSlot Worker) (yields : Bool) (r : Reply)
    (unseen : List Outcome → List ℕ)
    → IsOrderly m → (runs : RunsJob m p process_slot unseen)
    → ProcessSlotTurn copying worker_turns m process_slot yields r n next
    → Proceeds m n p next r unseen (outcomes_to_come m p process_slot unseen runs)
    (ReadsItsFile m p process_slot unseen runs)
    ⊎ IsOver m n process_slot.by p next unseen r ⊎ IsFalse (pipe_at n p).reading
