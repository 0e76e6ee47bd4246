-- The action of a client after a reply to its call; `t` is the client after the reply is processed, by the
-- specification.
use Rattle.std.specs.Prelude.{◌≡◌, ◌<◌, ℕ, Bool, true, false, not, if◌then◌else◌, List, [], length, Option, Some, None}
use Rattle.std.specs.Prelude.{Result, IfOk, OnErr, IsTrue, IsFalse, ⊤}
use Rattle.iol_core.specs.declared.events.Call.{Call}
use Rattle.iol_core.specs.declared.events.Call.TheVariants as call
use Rattle.iol_core.specs.declared.events.Reply.{Reply}
use Rattle.iol_core.specs.declared.events.Reply.TheVariants as reply
use Rattle.flash_http.specs.Request.{Answer, serve, refuse}
use Rattle.flash_laws.specs.Client.{Client, Readies, can_run, conn_after_reply, file_after_reply, is_for_script}
use Rattle.flash_laws.specs.Client.{buffered_if, left_over, run_after_reply, run_call, after_reply, next_call}
use Rattle.flash_laws.specs.Client.Wants.{WantsOn, needs_memory}
use Rattle.flash_laws.specs.Site.OtherConns.{left_by}
use Rattle.flash_laws.specs.Conn.{Conn, most_read, is_head_only}
use Rattle.flash_laws.specs.Conn.Policy.{has_answered}
use Rattle.flash_laws.specs.Conn.Wants as wanting
use Rattle.flash_laws.specs.Serves.Rounds.{leaves_off}
use Rattle.flash_laws.specs.Run as running
use Rattle.flash_laws.specs.Run.{is_over}
use Rattle.flash_laws.specs.declared.phase.Payload.{Payload}
use Rattle.flash_laws.specs.declared.phase.Payload.TheVariants.{Script}
use Rattle.flash_laws.specs.declared.phase.FileResult.TheVariants.{Text}
use Rattle.flash_laws.specs.declared.phase.Phase.{Phase}
use Rattle.flash_laws.specs.declared.phase.Phase.TheVariants.{Reading, ClosingFile, DroppingWhole, MakingHead}
use Rattle.flash_laws.specs.declared.script_run.Running.{Running}
use Rattle.flash_laws.specs.declared.script_run.Running.TheVariants.{AwaitingWorker, Finishing as Parts}
use Rattle.flash_lite.specs.Onward as conn
use Rattle.flash_lite.specs.Runs.{IsSmallRunning, run_worker}
use Rattle.flash_lite.specs.declared.client.Course.{Course}
use Rattle.flash_lite.specs.declared.client.Course.TheVariants.{Asks, Leaves}
use Rattle.flash_lite.specs.declared.client.Left.{Left}
use Rattle.flash_lite.specs.declared.client.Left.TheVariants.{Goes, Ends, Begins, Continues, Stays}
use Rattle.flash_lite.specs.declared.client.scripts.Found.{Found}
use Rattle.flash_lite.specs.declared.client.scripts.Found.TheVariants as reports

-- a run that continues is small, and not over
abbrev pub GoesAsRun : Option Running → Type 0
GoesAsRun None = ⊤
GoesAsRun (Some y) = IsSmallRunning y × IsFalse (is_over y)

-- ---- finding a script

-- whether its run begins, after the aggregate of its text is dropped
abbrev pub runs : Reply → (head_only : Bool) → Bool
runs reply.Done head_only = not head_only
runs r head_only = false

-- the result of a reply to reading a script
abbrev pub read : (file : ℕ) → Reply → Found
read f (reply.Agg n) = reports.Text f n
read f r = reports.AsFile

-- the result of a reply to dropping the bytes that are not sent
abbrev pub spared : Payload → Reply → (head_only : Bool) → Found
spared Script r head_only = if runs r head_only then reports.Runs else reports.AsFile
spared k r head_only = reports.AsFile

-- the result of a reply for a script: its text is read, it runs, or the same as for any file
abbrev pub found : (script : Bool) → Phase → Reply → (head_only : Bool) → Found
found true (Reading f) r head_only = read f r
found true (DroppingWhole a k) r head_only = spared k r head_only
found script d r head_only = reports.AsFile

-- the call for a script, given that for a file: a script is read whole
abbrev pub whole : (script : Bool) → Phase → Call → Call
whole true (Reading f) k = call.IolRead f most_read
whole script d k = k

-- the text that is buffered: all of it, if it is a script that will run
abbrev pub buffered_script : (head_only : Bool) → List ℕ → List ℕ
buffered_script head_only text = buffered_if head_only (can_run text) text

-- the text of a script was read
abbrev pub text_received : Client → (file agg : ℕ) → (received : List ℕ) → Client
text_received x f n received = record {
  conn = record x.conn { phase = ClosingFile f (Text n (can_run received)) };
  run = None;
  script = buffered_script (is_head_only x.conn.request) received;
}

-- ---- its run

-- the run after the reply to its call
abbrev pub run_after : (worker : ℕ) → Answer → Running → Reply → (received : List ℕ) → Running
run_after worker (serve w) y r received = running.after_reply worker w y r received
run_after worker (refuse status head_only close) y r received = y

-- the call of its run, with this text of its script
abbrev pub call_of_run : (fd : ℕ) → Client → (script : List ℕ) → Running → Call
call_of_run fd x script y = run_call fd x.conn.request script y

-- with this run, and this text of its script
abbrev pub with_run : Client → Running → (script : List ℕ) → Client
with_run x y script = record { conn = x.conn; run = Some y; script = script }

-- whether the response is taken whole by this run, and more input is buffered
abbrev pub has_answered_by : Conn → Running → Bool
has_answered_by c (Parts d) = has_answered (record c { phase = d })
has_answered_by c y = false

-- its run is over, and its connection is in this phase
abbrev pub ended : Client → Phase → Client
ended x d = record { conn = record x.conn { phase = d }; run = None; script = [] }

-- ---- its turn passes to others

-- the client in the state in which it continues
abbrev pub left_with : Client → Left → Client
left_with x (Goes d) = record { conn = record x.conn { phase = d }; run = x.run; script = x.script }
left_with x (Ends d) = ended x d
left_with x Begins = record {
  conn = record x.conn { phase = MakingHead Script };
  run = Some AwaitingWorker;
  script = x.script;
}
left_with x (Continues d) = with_run x (Parts d) x.script
left_with x Stays = x

abbrev pub CanRest : Client → Left → Type 0
CanRest x (Goes d) = conn.CanRest x.conn d
CanRest x (Ends d) = conn.CanRest x.conn d
CanRest x (Continues d) = GoesAsRun (Some (Parts d))
CanRest x l = ⊤

-- a client whose connection is over is removed
abbrev pub remains : Left → Client → Option Client
remains (Goes d) t = left_by d t
remains (Ends d) t = left_by d t
remains l t = Some t

-- it is unchanged, and the reply is processed by the state in which it continues
pub record IsLeft (t x : Client) (r : Reply) (l : Left) (y : Client) : Type 0 where
  pub passed : IsTrue (leaves_off (left_over t) r)
  pub after_reply_is : t ≡ left_with x l
  pub remains_is : left_over t ≡ remains l t
  pub can_rest : CanRest x l
  pub unchanged : y ≡ x

-- ---- or it continues at once: the reply is processed, and it becomes ready

pub record Proceeds (t : Client) (r : Reply) (y : Client) : Type 0 where
  pub on : IsFalse (leaves_off (left_over t) r)
  pub stays : left_over t ≡ Some t
  pub readies : Readies t y

abbrev pub IsCourse : (scripts : Bool) → (fd : ℕ) → (t x : Client) → Reply → Course → (y : Client) → Type 0
IsCourse scripts fd t x r (Asks k) y = Proceeds t r y × (k ≡ next_call scripts fd y)
IsCourse scripts fd t x r (Leaves l) y = IsLeft t x r l y

-- ---- its worker

-- the worker that runs its script, if any
abbrev pub worker_of : Client → Option ℕ
worker_of x = by x.run
  where
    by : Option Running → Option ℕ
    by None = None
    by (Some y) = run_worker y

-- ---- it takes an action, or runs out of memory

-- A client with the state `t` after the reply takes an action. Or it runs out of memory, which `may_want` permits, and
-- is unchanged.
pub record TakesCourse {E : Type 0} (scripts : Bool) (fd : ℕ) (t x : Client) (r : Reply) (may_want : Type 0)
    (result : Result Course E) (y : Client) : Type 0 where
  pub course : IfOk result (λ o. IsCourse scripts fd t x r o y)
  pub err : OnErr result (y ≡ x)
  pub wants : OnErr result may_want

-- A client takes an action, and may need memory to buffer bytes that it read, or to continue at once.
abbrev pub TakesAsAfterReply : {E : Type 0} → (scripts : Bool) → (fd : ℕ) → (t x : Client) → Reply → (received : List ℕ)
    → Result Course E
    → (y : Client) → Type 0
TakesAsAfterReply scripts fd t x r received result y =
    TakesCourse scripts fd t x r (WantsOn scripts t x r received) result y

-- The action of a client after a reply to its call; `worker` is free.
abbrev pub ProceedsAfterReply : {E : Type 0} → (scripts : Bool) → (fd worker : ℕ) → (x : Client) → Reply
    → (received : List ℕ)
    → Result Course E → (y : Client) → Type 0
ProceedsAfterReply scripts fd worker x r received result y =
    TakesAsAfterReply scripts fd (after_reply scripts worker x r received) x r received result y

-- The action of a client after a reply to the call of its run, which is this.
abbrev pub RunsOn : {E : Type 0} → (scripts : Bool) → (fd worker : ℕ) → Running → (x : Client) → Reply
    → (received : List ℕ)
    → Result Course E → (y : Client) → Type 0
RunsOn scripts fd worker run x r received result y =
    TakesAsAfterReply scripts fd (run_after_reply worker x.conn.request x run r received) x r received result y

-- The action of a client after a reply to a call for a file, or for a script that does not run yet.
abbrev pub ProceedsFile : {E : Type 0} → (scripts : Bool) → (fd : ℕ) → (x : Client) → Reply → (received : List ℕ)
    → Result Course E
    → (y : Client) → Type 0
ProceedsFile scripts fd x r received result y =
    TakesAsAfterReply scripts fd (file_after_reply (is_for_script scripts x.conn.request) x r received) x r received
    result y

-- The action of a client after a reply that concerns only its connection.
abbrev pub ProceedsAlone : {E : Type 0} → (scripts : Bool) → (fd : ℕ) → (x : Client) → Reply → (received : List ℕ)
    → Result Course E
    → (y : Client) → Type 0
ProceedsAlone scripts fd x r received result y =
    TakesCourse scripts fd (conn_after_reply x r received) x r (wanting.WantsOn x.conn r received) result y

-- The action of a client after the text of a script was read: it may need memory if a byte was read.
abbrev pub ReceivesText : {E : Type 0} → (scripts : Bool) → (fd file agg : ℕ) → (x : Client) → (received : List ℕ)
    → Result Course E
    → (y : Client) → Type 0
ReceivesText scripts fd file agg x received result y =
    TakesCourse scripts fd (text_received x file agg received) x reply.Done (0 < length received) result y

-- The action of a client after its run is over, with its connection in this phase.
abbrev pub EndsRun : {E : Type 0} → (scripts : Bool) → (fd : ℕ) → Phase → (x : Client) → (may_want : Type 0)
    → Result Course E
    → (y : Client) → Type 0
EndsRun scripts fd d x may_want result y = TakesCourse scripts fd (ended x d) x reply.Done may_want result y

-- after its run is over a client continues at once, and begins a request or makes a call with bytes of its own
abbrev pub WantsToEnd : Client → Phase → Type 0
WantsToEnd x d = IsFalse (leaves_off (left_over (ended x d)) reply.Done) × IsTrue (needs_memory (ended x d))
