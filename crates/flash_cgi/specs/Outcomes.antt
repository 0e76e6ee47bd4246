-- The outcomes of the files that a script names, with the current files and lists.
use Rattle.std.specs.Prelude.{◌≡◌, ◌⊎◌, ℕ, ◌-◌, ◌≤◌, List, [], ◌∷◌, ◌++◌, length, drop, Option, Some, None}
use Rattle.std.specs.Prelude.{if◌then◌else◌, IsTrue, ⊤}
use Rattle.iol_core.specs.State.{State, descriptor, file, content, may_read, is_pool}
use Rattle.iol_core.specs.Calls.Files.{file_called}
use Rattle.iol_core.specs.NumberedLists.{is_numbered}
use Rattle.iol_core.specs.Positions.{ArePlaced}
use Rattle.iol_core.specs.Run.{StepsTo}
use Rattle.iol_core.specs.declared.limits.TheConstants.{MAX_FILE_BYTES}
use Rattle.iol_core.specs.declared.descriptors.Descriptor.TheVariants as on
use Rattle.iol_core.specs.declared.descriptors.Mode.TheVariants.{Read}
use Rattle.iol_core.specs.declared.refusals.Refusal.TheVariants.{NoFile, Denied}
use Rattle.iol_core.specs.declared.events.Event.TheVariants as event
use Rattle.iol_core.specs.declared.events.Reply.{Reply}
use Rattle.iol_core.specs.declared.events.Reply.TheVariants as reply
use Rattle.iol_core.specs.declared.refusals.Refusal.{Refusal}
use Rattle.iol_laws.specs.Caller.{readable_at, is_resource_failure}
use Rattle.iol_laws.specs.Order.{IsOrderly}
use Rattle.flash_cgi.specs.Job.{Task}
use Rattle.flash_cgi.specs.Output.{Outcome, Found, Failed}
use Rattle.flash_cgi.specs.WorkerSteps.{call_at, after_reply}
use Rattle.flash_cgi.specs.Feeds.{Feeds, resolved}
use Rattle.flash_cgi.specs.declared.line.Line.{Line}
use Rattle.flash_cgi.specs.declared.line.Line.TheVariants as line
use Rattle.flash_cgi.specs.declared.phase.Phase.{Phase}
use Rattle.flash_cgi.specs.declared.phase.Phase.TheVariants as phase
use Rattle.flash_cgi.specs.declared.phase.Step.{Step}

-- the outcome of a file for a domain
abbrev pub outcome_of : State → (d : ℕ) → Option ℕ → Outcome
outcome_of m d (Some f) = if may_read m d (file m f).pool then Found (content m f) else Failed (Denied (file m f).pool)
outcome_of m d None = Failed NoFile

abbrev pub outcome_in : State → (d : ℕ) → (name : List ℕ) → Outcome
outcome_in m d name = outcome_of m d (file_called m name)

-- the outcomes of the lines that name a file
abbrev pub outcomes_in : State → (d : ℕ) → List Line → List Outcome
outcomes_in m d [] = []
outcomes_in m d (line.Emit text ∷ lines) = outcomes_in m d lines
outcomes_in m d (line.Query ∷ lines) = outcomes_in m d lines
outcomes_in m d (line.Cat name ∷ lines) = outcome_in m d name ∷ outcomes_in m d lines
outcomes_in m d (line.Wc name ∷ lines) = outcome_in m d name ∷ outcomes_in m d lines
outcomes_in m d (line.Pause ∷ lines) = outcomes_in m d lines

-- the outcomes of the lines with files still to be opened, and of the file that is being read
abbrev pub to_come_phase : State → (d : ℕ) → Task → (begun : ℕ) → Phase → List Outcome
to_come_phase m d job begun (phase.Reading file u) = outcomes_in m d (drop (begun - 1) job.lines)
to_come_phase m d job begun phase.Waiting = []
to_come_phase m d job begun x = outcomes_in m d (drop begun job.lines)

abbrev pub to_come : State → (d : ℕ) → Task → Step → List Outcome
to_come m d job step = to_come_phase m d job step.begun step.phase

-- the file that is being read is the one that the last begun line names, and it is read from its start
pub record IsReading (m : State) (d : ℕ) (job : Task) (begun fd : ℕ) : Type 0 where
  pub number : ℕ
  pub open_on : descriptor m d fd ≡ Some (on.File number 0 Read)
  pub names : outcomes_in m d (drop (begun - 1) job.lines) ≡ Found (content m number)
      ∷ outcomes_in m d (drop begun job.lines)

abbrev pub ReadsNamed : State → (d : ℕ) → Task → (begun : ℕ) → Phase → Type 0
ReadsNamed m d job begun (phase.Reading file u) = IsReading m d job begun file
ReadsNamed m d job begun x = ⊤

-- the settled outcome is the one that was to come
pub record ResolvesTruly (m : State) (d : ℕ) (job : Task) (step : Step) (r : Reply) (n : State) (next : Step) :
    Type 0 where
  pub same : to_come m d job step ≡ resolved job step (readable_at n d) r ++ to_come n d job next
  pub reads : ReadsNamed n d job next.begun next.phase

-- The call for a file was refused with TooMany, NoRoom, Fault or Memory: it settles this refusal instead of the file's
-- outcome.
pub record ResolvesByRefusal (m : State) (d : ℕ) (job : Task) (step : Step) (r : Reply) (n : State) (next : Step) :
    Type 0 where
  pub why : Refusal
  pub answer : r ≡ reply.Refused why
  pub resource_failure : IsTrue (is_resource_failure r)
  pub instead : Outcome
  pub was : to_come m d job step ≡ instead ∷ to_come n d job next
  pub resolves : resolved job step (readable_at n d) r ≡ Failed why ∷ []
  pub reads : ReadsNamed n d job next.begun next.phase

-- files are within their limit, and have existing pools
pub record AreFiles (m : State) : Type 0 where
  pub lengths : (f : ℕ) → IsTrue (is_numbered m.files f) → length (content m f) ≤ MAX_FILE_BYTES
  pub pooled : (name : List ℕ) (f : ℕ) → file_called m name ≡ Some f → IsTrue (is_pool m (file m f).pool)

-- The outcomes that a worker's calls settle are those of the files that its lines name. If the call for a file is
-- refused with TooMany, NoRoom, Fault or Memory, the outcome is this refusal.
abbrev pub OutcomesAreTrue : Type 0
OutcomesAreTrue = (m n : State) (d p : ℕ) (job : Task) (step next : Step) (r : Reply) (unseen : List Outcome → List ℕ)
    → IsOrderly m → ArePlaced m → AreFiles m → Feeds m d p job step unseen → ReadsNamed m d job step.begun step.phase
    → StepsTo m (event.Call d (call_at job step)) r n → after_reply job step (readable_at n d) r ≡ Some next
    → ResolvesTruly m d job step r n next ⊎ ResolvesByRefusal m d job step r n next
