-- The reply to a call of a client is no copy of bytes.
use Rattle.std.proofs.Common.{ℕ, Bool, true, false, List, Option, Some, None, sym, subst, if◌then◌else◌}
use Rattle.iol_core.specs.declared.events.Call.TheVariants as call
use Rattle.iol_core.specs.declared.events.Reply.{Reply}
use Rattle.iol_proc.specs.CopyFree.{IsCopyFree, IsCopyFreeCall}
use Rattle.iol_proc.specs.declared.process.Turn.{Turn}
use Rattle.iol_proc.specs.declared.process.Turn.TheVariants as turn
use Rattle.flash_http.specs.Request.{Answer, serve, refuse, Wanted}
use Rattle.flash_laws.specs.Client.{Client, is_for_script, conn_call, job_of, run_call, next_call}
use Rattle.flash_laws.specs.Conn as conn
use Rattle.flash_laws.specs.Conn.{Conn, is_head_only, most_read}
use Rattle.flash_laws.specs.Site.Places.{runs_scripts}
use Rattle.flash_laws.specs.Run as running
use Rattle.flash_laws.specs.Run.{in_phase, step_call}
use Rattle.flash_laws.specs.Serves.{Picks}
use Rattle.flash_laws.specs.declared.phase.Phase.{Phase}
use Rattle.flash_laws.specs.declared.phase.Phase.TheVariants.{Reading}
use Rattle.flash_laws.specs.declared.phase.PendingCall.{PendingCall}
use Rattle.flash_laws.specs.declared.phase.PendingCall.TheVariants.{Nothing, Accepting, At}
use Rattle.flash_laws.specs.declared.script_run.Run.{Run}
use Rattle.flash_laws.specs.declared.script_run.Step.{Step}
use Rattle.flash_laws.specs.declared.script_run.Step.TheVariants as act
use Rattle.flash_laws.specs.declared.script_run.Running.{Running}
use Rattle.flash_laws.specs.declared.script_run.Running.TheVariants.{AwaitingWorker, InProgress, Finishing}
use Rattle.flash_laws.specs.declared.script_run.Running.TheVariants.{Disconnecting as Finished}
use Rattle.flash_lite.specs.ServerTurn.{Turns, filed_by}
use Rattle.flash_lite.specs.Table.{Table}

reading : (head_only : Bool) (f : ℕ) → IsCopyFreeCall (if head_only then call.Length f else call.IolRead f most_read)
reading true f = tt
reading false f = tt

phase : (fd : ℕ) (buffered : List ℕ) (q : Answer) (d : Phase)
    → IsCopyFreeCall (conn.next_call fd (record { buffered = buffered; request = q; phase = d }))
phase fd buffered q (Reading f) = reading (is_head_only q) f
phase fd buffered q d = tt

script-phase : (script : Bool) (fd : ℕ) (buffered : List ℕ) (q : Answer) (d : Phase)
    → IsCopyFreeCall (conn_call script fd (record { buffered = buffered; request = q; phase = d }))
script-phase true fd buffered q (Reading f) = tt
script-phase true fd buffered q d = tt
script-phase false fd buffered q d = phase fd buffered q d

step : (job : ℕ → List ℕ) (fd : ℕ) (w : Wanted) (run : Run) (s : Step) → IsCopyFreeCall (step_call job fd w run s)
step job fd w run (act.SendingPart d frame) = phase fd (in_phase w d).buffered (in_phase w d).request d
step job fd w run s = tt

run : (job : ℕ → List ℕ) (fd : ℕ) (w : Wanted) (y : Running) → IsCopyFreeCall (running.next_call job fd w y)
run job fd w AwaitingWorker = tt
run job fd w (InProgress r s) = step job fd w r s
run job fd w (Finishing d) = phase fd (in_phase w d).buffered (in_phase w d).request d
run job fd w Finished = tt

copy-free-call : (scripts : Bool) (fd : ℕ) (c : Conn) (r : Option Running) (script : List ℕ)
    → IsCopyFreeCall (next_call scripts fd (record { conn = c; run = r; script = script }))
copy-free-call scripts fd c None script = script-phase (is_for_script scripts c.request) fd c.buffered c.request c.phase
copy-free-call scripts fd c (Some y) script = by c.request
  where
    by : (q : Answer) → IsCopyFreeCall (run_call fd q script y)
    by (serve w) = run (λ g. job_of w script g) fd w y
    by (refuse status head_only close) = tt

copy-free-pick : (workers : ℕ) (l : List (Option Client)) (pending_call : PendingCall) (made : Turn)
    (after : List (Option Client)) → Picks workers l pending_call made after → IsCopyFree made
copy-free-pick workers l Nothing made after p = subst (λ (t : Turn). IsCopyFree t) (sym p.1) tt
copy-free-pick workers l Accepting made after p = subst (λ (t : Turn). IsCopyFree t) (sym p.1) tt
copy-free-pick workers l (At fd) made after p =
    subst (λ (t : Turn). IsCopyFree t) (sym p.call_is)
    (copy-free-call (runs_scripts workers) fd p.ready.conn p.ready.run p.ready.script)

pub copy_free_turn : (s t : Table) (r : Reply) (received : List ℕ) (made : Turn) → Turns s r received made t
    → IsCopyFree made
copy_free_turn s t r received made turns =
    copy-free-pick s.workers (filed_by s r received) t.pending_call made t.clients turns.picks
