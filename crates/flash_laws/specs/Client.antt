-- One client of the server: its connection, and the script that runs for the request in progress.
--
-- A server with workers answers a request for a name that ends in `.cgi` by the output of the script. The script is
-- opened and read like any file; then its run has the connection until all is sent.
pub mod ResponseState
pub mod Fits
pub mod OfferedBytes
pub mod Holdings
pub mod Wants
use Rattle.std.specs.Prelude.{◌≡◌, ℕ, ◌&&◌, Bool, true, false, List, [], Option, Some, None, is_some, ⊤}
use Rattle.iol_core.specs.declared.events.Call.{Call}
use Rattle.iol_core.specs.declared.events.Call.TheVariants as call
use Rattle.iol_core.specs.declared.events.Reply.{Reply}
use Rattle.iol_core.specs.declared.events.Reply.TheVariants as reply
use Rattle.flash_http.specs.MediaType.{is_script}
use Rattle.flash_http.specs.Request.{Answer, serve, refuse, Wanted}
use Rattle.flash_cgi.specs.Job.{job_text}
use Rattle.flash_cgi.specs.Script.{script_of}
use Rattle.flash_laws.specs.Conn as conn
use Rattle.flash_laws.specs.Conn.{Conn, new_connection, most_read, is_head_only}
use Rattle.flash_laws.specs.Conn.Policy as policy
use Rattle.flash_laws.specs.Run as running
use Rattle.flash_laws.specs.Run.{is_over}
use Rattle.flash_laws.specs.Site.OtherConns.{left_by}
use Rattle.flash_laws.specs.declared.phase.FileResult.TheVariants.{Text}
use Rattle.flash_laws.specs.declared.phase.Payload.TheVariants.{Script}
use Rattle.flash_laws.specs.declared.phase.Phase.{Phase}
use Rattle.flash_laws.specs.declared.phase.Phase.TheVariants as phase
use Rattle.flash_laws.specs.declared.script_run.Step.TheVariants.{GivingPipe, MakingJob}
use Rattle.flash_laws.specs.declared.script_run.Running.{Running}
use Rattle.flash_laws.specs.declared.script_run.Running.TheVariants.{AwaitingWorker, InProgress, Finishing}

pub record Client : Type 0 where
  -- its connection; while a script runs, its phase does not change
  pub conn : Conn
  -- the run of the requested script, if it has begun and is not over
  pub run : Option Running
  -- the text of that script, from the time when it is read until the job is made
  pub script : List ℕ

abbrev pub new_client : Client
new_client = record { conn = new_connection; run = None; script = [] }

-- ---- the objects that it uses

abbrev pub uses_agg : Client → (a : ℕ) → Bool
uses_agg x a = by x.run
  where
    by : Option Running → Bool
    by None = conn.uses_agg x.conn.phase a
    by (Some y) = running.uses_agg y a

abbrev pub uses_fd : Client → (g : ℕ) → Bool
uses_fd x g = by x.run
  where
    by : Option Running → Bool
    by None = conn.uses_fd x.conn.phase g
    by (Some y) = running.uses_fd y g

-- ---- its next call

-- whether a request is for a script, if scripts are run
abbrev pub is_for_script : (scripts : Bool) → Answer → Bool
is_for_script scripts (serve w) = scripts && is_script w.name
is_for_script scripts (refuse status head_only close) = false

-- a script is read whole, also for HEAD
abbrev pub script_call : (fd : ℕ) → Conn → Call
script_call fd x = by x.phase
  where
    by : Phase → Call
    by (phase.Reading f) = call.IolRead f most_read
    by d = conn.next_call fd x

abbrev pub conn_call : (script : Bool) → (fd : ℕ) → Conn → Call
conn_call false fd x = conn.next_call fd x
conn_call true fd x = script_call fd x

-- the text of the job for a request whose script has this text, with the descriptor of the output
abbrev pub job_of : Wanted → (script : List ℕ) → (fd : ℕ) → List ℕ
job_of w script fd = job_text fd w.query script

abbrev pub run_call : (fd : ℕ) → Answer → (script : List ℕ) → Running → Call
run_call fd (serve w) script y = running.next_call (job_of w script) fd w y
run_call fd (refuse status head_only close) script y = call.Close fd

-- its next call; fd is the descriptor of its connection
abbrev pub next_call : (scripts : Bool) → (fd : ℕ) → Client → Call
next_call scripts fd x = by x.run
  where
    by : Option Running → Call
    by None = conn_call (is_for_script scripts x.conn.request) fd x.conn
    by (Some y) = run_call fd x.conn.request x.script y

-- ---- the beginning of a response

abbrev pub Readies : Client → Client → Type 0
Readies x y = by x.run
  where
    by : Option Running → Type 0
    by None = (ready : Conn) × conn.Readies x.conn ready × (y ≡ record { conn = ready; run = None; script = x.script })
    by (Some z) = y ≡ x

-- whether a reading connection has no request that could begin
abbrev pub IsAwaiting : Client → Type 0
IsAwaiting x = by x.run
  where
    by : Option Running → Type 0
    by None = conn.IsAwaiting x.conn
    by (Some y) = ⊤

-- ---- its state after the reply to its call; `received` is the contents of the aggregate in the reply

-- whether a text is a script
abbrev pub can_run : List ℕ → Bool
can_run text = is_some (script_of text)

abbrev pub after_text : (file : ℕ) → Reply → (received : List ℕ) → Phase
after_text f (reply.Agg n) received = phase.ClosingFile f (Text n (can_run received))
after_text f r received = conn.after_read f r received

-- the text that is buffered: that of a script that will run
abbrev pub buffered_if : (head_only runs : Bool) → List ℕ → List ℕ
buffered_if false true text = text
buffered_if head_only runs text = []

abbrev pub buffered_text : (head_only : Bool) → (was : List ℕ) → Reply → (received : List ℕ) → List ℕ
buffered_text head_only was (reply.Agg n) received = buffered_if head_only (can_run received) received
buffered_text head_only was r received = was

-- the aggregate of the script is dropped: the run begins, unless the request is HEAD
abbrev pub after_drop_whole : (head_only : Bool) → Reply → Option Running
after_drop_whole false reply.Done = Some AwaitingWorker
after_drop_whole head_only r = None

abbrev pub conn_after_reply : Client → Reply → (received : List ℕ) → Client
conn_after_reply x r received = record { conn = conn.after_reply x.conn r received; run = None; script = x.script }

abbrev pub script_after_reply : Client → Reply → (received : List ℕ) → Client
script_after_reply x r received = by x.conn.phase
  where
    by : Phase → Client
    by (phase.Reading f) = record {
      conn = record x.conn { phase = after_text f r received };
      run = None;
      script = buffered_text (is_head_only x.conn.request) x.script r received;
    }
    by (phase.DroppingWhole a Script) = record {
      conn = conn.after_reply x.conn r received;
      run = after_drop_whole (is_head_only x.conn.request) r;
      script = x.script;
    }
    by d = conn_after_reply x r received

abbrev pub file_after_reply : (script : Bool) → Client → Reply → (received : List ℕ) → Client
file_after_reply false x r received = conn_after_reply x r received
file_after_reply true x r received = script_after_reply x r received

-- whether the job is still to be made
abbrev pub keeps_text : Running → Bool
keeps_text AwaitingWorker = true
keeps_text (InProgress run (GivingPipe write)) = true
keeps_text (InProgress run (MakingJob f)) = true
keeps_text y = false

-- after that the text is no longer buffered
abbrev pub text_on : (was now : Bool) → List ℕ → List ℕ
text_on true false text = []
text_on was now text = text

-- the phase of the connection once the run is over
abbrev pub after_run : Running → Phase
after_run (Finishing d) = d
after_run y = phase.Disconnecting

-- the run advances from y to z, or is over with it
abbrev pub proceeds : (was over : Bool) → Client → (y z : Running) → Client
proceeds false true x y z = record { conn = record x.conn { phase = after_run z }; run = None; script = [] }
proceeds was over x y z =
    record { conn = x.conn; run = Some z; script = text_on (keeps_text y) (keeps_text z) x.script }

abbrev pub run_on : Client → (y z : Running) → Client
run_on x y z = proceeds (is_over y) (is_over z) x y z

abbrev pub run_after_reply : (worker : ℕ) → Answer → Client → Running → Reply → (received : List ℕ) → Client
run_after_reply worker (serve w) x y r received = run_on x y (running.after_reply worker w y r received)
run_after_reply worker (refuse status head_only close) x y r received = x

-- Its state after the reply to its call; `worker` is a free worker.
abbrev pub after_reply : (scripts : Bool) → (worker : ℕ) → Client → Reply → (received : List ℕ) → Client
after_reply scripts worker x r received = by x.run
  where
    by : Option Running → Client
    by None = file_after_reply (is_for_script scripts x.conn.request) x r received
    by (Some y) = run_after_reply worker x.conn.request x y r received

-- a client that is over is removed
abbrev pub left_over : Client → Option Client
left_over x = by x.run
  where
    by : Option Running → Option Client
    by None = left_by x.conn.phase x
    by (Some y) = Some x

-- ---- its turns

-- whether it waits for a worker
abbrev pub awaits : Client → Bool
awaits x = by x.run
  where
    by : Option Running → Bool
    by None = false
    by (Some AwaitingWorker) = true
    by (Some y) = false

-- whether it is idle and has no buffered input
abbrev pub is_bare : Client → Bool
is_bare x = by x.run
  where
    by : Option Running → Bool
    by None = policy.is_bare x.conn
    by (Some y) = false

-- whether its response is taken whole, of a file or of its script, and more input is buffered
abbrev pub has_answered : Client → Bool
has_answered x = by x.run
  where
    by : Option Running → Bool
    by None = policy.has_answered x.conn
    by (Some (Finishing d)) = policy.has_answered (record x.conn { phase = d })
    by (Some y) = false
