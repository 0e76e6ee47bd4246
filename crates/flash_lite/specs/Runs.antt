-- The calls of a script's run, and the bounds of its numbers.
use Rattle.std.specs.Prelude.{◌<◌, ◌==◌, ℕ, Bool, true, false, List, Option, Some, None, if◌then◌else◌, IsTrue, ⊤}
use Rattle.iol_core.specs.declared.events.Call.{Call}
use Rattle.iol_core.specs.declared.events.Reply.{Reply}
use Rattle.flash_cgi.specs.Job.{job_text}
use Rattle.flash_http.specs.Request.{Wanted}
use Rattle.flash_laws.specs.Conn.{Following}
use Rattle.flash_laws.specs.Conn as conn
use Rattle.flash_laws.specs.Run.{is_left, on_output, in_phase, step_call, next_call}
use Rattle.flash_laws.specs.declared.phase.Phase.{Phase}
use Rattle.flash_laws.specs.declared.script_run.TheConstants.{CHUNK_BYTES}
use Rattle.flash_laws.specs.declared.script_run.Run.{Run}
use Rattle.flash_laws.specs.declared.script_run.Step.{Step}
use Rattle.flash_laws.specs.declared.script_run.Step.TheVariants.{SendingPart, ReadingOutput, JoiningOutput}
use Rattle.flash_laws.specs.declared.script_run.Step.TheVariants.{DroppingEnd, ClosingOutput, DroppingFrame}
use Rattle.flash_laws.specs.declared.script_run.Step.TheVariants.{MakingEnd, FillingEnd}
use Rattle.flash_laws.specs.declared.script_run.Running.{Running}
use Rattle.flash_laws.specs.declared.script_run.Running.TheVariants.{AwaitingWorker, InProgress, Finishing}
use Rattle.flash_lite.specs.Small.{IsSmall}
use Rattle.flash_lite.specs.declared.site.TheConstants.{MAX_WORKERS}

-- the buffered output has some bytes, and fewer than a chunk
abbrev pub IsPiece : Following → Type 0
IsPiece None = ⊤
IsPiece (Some x) = (0 < x.1) × (x.1 < CHUNK_BYTES)

-- the rest of a response is being made or sent
pub record IsGoing (d : Phase) : Type 0 where
  pub small : IsSmall d
  pub left : IsTrue (is_left d)

abbrev pub IsSmallStep : Step → Type 0
IsSmallStep (SendingPart d frame) = IsGoing d
IsSmallStep (ReadingOutput held frame) = IsPiece held
IsSmallStep (JoiningOutput held size piece len frame) = IsPiece (Some (held, size))
IsSmallStep (DroppingEnd a held frame) = IsPiece held
IsSmallStep (ClosingOutput held frame) = IsPiece held
IsSmallStep (DroppingFrame frame held) = IsPiece held
IsSmallStep (MakingEnd held) = IsPiece held
IsSmallStep (FillingEnd held size frame) = IsPiece (Some (held, size))
IsSmallStep s = ⊤

abbrev pub IsSmallRun : Run → Type 0
IsSmallRun run = run.worker < MAX_WORKERS

abbrev pub IsSmallRunning : Running → Type 0
IsSmallRunning (InProgress run step) = IsSmallRun run × IsSmallStep step
IsSmallRunning (Finishing d) = IsSmall d
IsSmallRunning x = ⊤

-- whether it waits for a worker
abbrev pub waits : Running → Bool
waits AwaitingWorker = true
waits y = false

-- the worker that runs it
abbrev pub run_worker : Running → Option ℕ
run_worker (InProgress run step) = Some run.worker
run_worker y = None

-- the text of the job for a request
abbrev pub job_for : Wanted → (script : List ℕ) → (fd : ℕ) → List ℕ
job_for w script fd = job_text fd w.query script

-- the call of a run for a request whose script has this text
abbrev pub call_for : Wanted → (script : List ℕ) → (fd : ℕ) → Running → Call
call_for w script fd y = next_call (job_for w script) fd w y

-- the call of a step of such a run
abbrev pub step_call_for : Wanted → (script : List ℕ) → (fd : ℕ) → Run → Step → Call
step_call_for w script fd run step = step_call (job_for w script) fd w run step

-- the call of a part of the response, as made by a connection in this phase
abbrev pub part_call_for : (fd : ℕ) → Wanted → Phase → Call
part_call_for fd w d = conn.next_call fd (in_phase w d)

-- the phase after the reply to a part of the response
abbrev pub after_reply_left : Wanted → Phase → Reply → (received : List ℕ) → Phase
after_reply_left w d r received = (conn.after_reply (in_phase w d) r received).phase

-- len bytes of output were read, or its end
abbrev pub reading : (broken chunked : Bool) → (held : Following) → (frame : Option ℕ) → (agg len : ℕ) → Step
reading broken chunked held frame a len =
    if len == 0 then DroppingEnd a held frame else on_output broken chunked held frame a len
