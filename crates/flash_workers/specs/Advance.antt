-- Each step of a worker brings its script nearer to its end, unless its call is to be retried.
use Rattle.std.specs.Prelude.{◌≡◌, ◌≢◌, ◌<◌, ◌⊎◌, ℕ, ◌+◌, ◌-◌, ◌*◌, List, [], length, Option, Some, None}
use Rattle.std.specs.Prelude.{is_some, if◌then◌else◌, IsFalse, ⊤}
use Rattle.iol_core.specs.State.{State, descriptor}
use Rattle.iol_core.specs.Run.{StepsTo}
use Rattle.iol_core.specs.declared.descriptors.Descriptor.TheVariants as on
use Rattle.iol_core.specs.declared.events.Event.{Event}
use Rattle.iol_core.specs.declared.events.Event.TheVariants as event
use Rattle.iol_core.specs.declared.events.Reply.{Reply}
use Rattle.iol_core.specs.declared.events.Reply.TheVariants as reply
use Rattle.iol_core.specs.declared.refusals.Refusal.{Refusal}
use Rattle.iol_laws.specs.Caller.{readable_at}
use Rattle.iol_laws.specs.Order.{IsOrderly}
use Rattle.flash_cgi.specs.Beside.{is_call_of}
use Rattle.flash_cgi.specs.Collecting.{Collected, but_last, nothing}
use Rattle.flash_cgi.specs.Feeds.{Feeds, HasBytes}
use Rattle.flash_cgi.specs.Job.{Task}
use Rattle.flash_cgi.specs.Output.{Outcome}
use Rattle.flash_cgi.specs.WorkerSteps.{bytes_at, call_at, expected_now, after_reply}
use Rattle.flash_cgi.specs.declared.phase.Phase.{Phase}
use Rattle.flash_cgi.specs.declared.phase.Phase.TheVariants as phase
use Rattle.flash_cgi.specs.declared.phase.Step.{Step}

-- ---- the rank

abbrev pub Rank : Type 0
Rank = ℕ × ℕ

abbrev pub IsBelow : Rank → Rank → Type 0
IsBelow s t = (s.0 < t.0) ⊎ ((s.0 ≡ t.0) × (s.1 < t.1))

-- The stages of a line that is begun: its file is read, counted, closed and joined to earlier files; then the buffered
-- output is made, its files are inserted, and it is written, followed by a file of its own.
abbrev pub stage : Task → Collected → (begun : ℕ) → Phase → ℕ
stage job x begun (phase.Reading file p) = 7
stage job x begun (phase.DroppingCounted file agg s) = 6
stage job x begun (phase.ClosingFile file agg) = 5
stage job x begun (phase.ClosingCounted file s) = 5
stage job x begun (phase.JoiningFile held agg from len) = 4
stage job x begun phase.Interpreting = if expected_now job x begun then 3 else 0
stage job x begun (phase.CuttingPart held agg from) = 2
stage job x begun (phase.ReplacingPart agg part place) = 2
stage job x begun (phase.DroppingText agg part made) = 2
stage job x begun (phase.DroppingPart part made) = 2
stage job x begun d = if is_some x.next then 1 else 0

-- the calls of a stage: four for each file to be inserted, and at most three for each byte to be written
abbrev pub calls_left : (ℕ → Option (List ℕ)) → Collected → Phase → ℕ
calls_left readable x (phase.CuttingPart held agg from) = 4 * length x.places
calls_left readable x (phase.ReplacingPart agg part place) = 4 * length (but_last x.places) + 3
calls_left readable x (phase.DroppingText agg part made) = 4 * length x.places + 2
calls_left readable x (phase.DroppingPart part made) = 4 * length x.places + 1
calls_left readable x (phase.Writing agg) = 3 * length (bytes_at readable agg) + 2
calls_left readable x (phase.CuttingRest agg from to) = 3 * (to - from) + 4
calls_left readable x (phase.DroppingTaken agg rest) = 3 * length (bytes_at readable rest) + 3
calls_left readable x (phase.DroppingWritten agg) = 1
calls_left readable x (phase.Aborting agg) = 1
calls_left readable x d = 0

-- the lines that are not begun, each with all stages, and the stages of the line that is; then the calls of a stage
abbrev pub rank : Task → (ℕ → Option (List ℕ)) → Step → Rank
rank job readable step = (
  8 * (length job.lines - step.begun) + stage job step.piece step.begun step.phase,
  calls_left readable step.piece step.phase,
)

-- ---- the buffered output

-- bytes of files are counted only while an aggregate of them is held
abbrev pub IsWhole : Collected → Type 0
IsWhole x = x.held ≡ None → (x.files ≡ 0) × (x.places ≡ [])

-- all is made, except for a file that follows
abbrev pub IsMade : Collected → Type 0
IsMade x = (x.text ≡ []) × (x.held ≡ None) × (x.files ≡ 0) × (x.places ≡ [])

abbrev pub IsTidyIn : Collected → Phase → Type 0
IsTidyIn x (phase.CuttingPart held agg from) = (x.text ≡ []) × IsWhole x × (0 < length x.places)
IsTidyIn x (phase.ReplacingPart agg part place) = (x.text ≡ []) × IsWhole x
IsTidyIn x (phase.DroppingText agg part made) = (x.text ≡ []) × IsWhole x
IsTidyIn x (phase.DroppingPart part made) = (x.text ≡ []) × IsWhole x
IsTidyIn x (phase.Writing agg) = IsMade x
IsTidyIn x (phase.CuttingRest agg from to) = IsMade x
IsTidyIn x (phase.DroppingTaken agg rest) = IsMade x
IsTidyIn x (phase.DroppingWritten agg) = IsMade x
IsTidyIn x (phase.Aborting agg) = IsMade x
IsTidyIn x d = IsWhole x

abbrev pub IsTidy : Step → Type 0
IsTidy step = IsTidyIn step.piece step.phase

-- ---- the law

-- the aggregate that it writes exists, and it writes to pipe p; nothing else is required, also once the pipe has no
-- reader
abbrev pub IsReady : State → (d p : ℕ) → Task → Phase → Type 0
IsReady m d p job (phase.Writing agg) = (descriptor m d job.fd ≡ Some (on.WriteEnd p)) × HasBytes m d agg
IsReady m d p job (phase.CuttingRest agg from to) = HasBytes m d agg
IsReady m d p job (phase.DroppingTaken agg rest) = HasBytes m d rest × (agg ≢ rest)
IsReady m d p job x = ⊤

-- its output is at its end, or it is nearer to that
abbrev pub IsNearer : Task → (was now : ℕ → Option (List ℕ)) → (step next : Step) → Type 0
IsNearer job was now step next = (next.phase ≡ phase.Waiting) ⊎ IsBelow (rank job now next) (rank job was step)

pub record WorkersAdvance : Type 0 where
  -- a job begins tidy, with the drop of the aggregate that it was read as
  pub begins : (agg : ℕ) → IsTidy (record { phase = phase.DroppingWritten agg; begun = 0; piece = nothing })
  -- a worker that runs a script is ready
  pub ready : (m : State) (d p : ℕ) (job : Task) (step : Step) (unseen : List Outcome → List ℕ)
      → Feeds m d p job step unseen
      → IsReady m d p job step.phase
  -- each step leads to a step that is tidy and nearer to the end
  pub nears : (m n : State) (d p : ℕ) (job : Task) (step next : Step) (r : Reply) → IsOrderly m
      → IsReady m d p job step.phase
      → IsTidy step → StepsTo m (event.Call d (call_at job step)) r n
      → after_reply job step (readable_at n d) r ≡ Some next
      → IsTidy next × IsNearer job (readable_at m d) (readable_at n d) step next
  -- the call is retried only if it was refused, and then nothing changed
  pub stays : (m n : State) (d : ℕ) (job : Task) (step : Step) (r : Reply) → step.phase ≢ phase.Waiting
      → StepsTo m (event.Call d (call_at job step)) r n → after_reply job step (readable_at n d) r ≡ None
      → (x : Refusal) × (r ≡ reply.Refused x) × (n ≡ m)
  -- events of others leave the rank unchanged
  pub others : (m n : State) (d p : ℕ) (job : Task) (step : Step) (e : Event) (r : Reply) → IsReady m d p job step.phase
      → StepsTo m e r n → IsFalse (is_call_of e d) → rank job (readable_at n d) step ≡ rank job (readable_at m d) step
