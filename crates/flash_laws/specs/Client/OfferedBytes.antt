-- The bytes that the server offers a client for a request, of a file or of a script, are the next bytes of the
-- response.
--
-- The laws are about single steps, undisturbed or not: the machine's data of a response remains, unless a call consumes
-- or moves an object that the client uses. That this holds over a whole run is not stated here.
use Rattle.std.specs.Prelude.{◌≡◌, ◌⊎◌, ℕ, ◌+◌, Bool, true, not, List, [], ◌++◌, Option, Some, None, IsTrue}
use Rattle.std.specs.Prelude.{IsFalse}
use Rattle.iol_core.specs.Access.{HasAccess}
use Rattle.iol_core.specs.State.{State, descriptor, is_live}
use Rattle.iol_core.specs.Run.{StepsTo}
use Rattle.iol_core.specs.Values.{gives_up}
use Rattle.iol_core.specs.declared.descriptors.Descriptor.TheVariants as on
use Rattle.iol_core.specs.declared.events.Call.TheVariants as call
use Rattle.iol_core.specs.declared.events.Event.{Event}
use Rattle.iol_core.specs.declared.events.Event.TheVariants as event
use Rattle.iol_core.specs.declared.events.Reply.{Reply}
use Rattle.iol_core.specs.declared.events.Reply.TheVariants as reply
use Rattle.iol_laws.specs.Frame.{touches_fd}
use Rattle.iol_laws.specs.Order.{IsOrderly}
use Rattle.flash_http.specs.Request.{Answer, serve, Wanted}
use Rattle.flash_laws.specs.Answers.{Outcome}
use Rattle.flash_laws.specs.Client.{Client, uses_agg, uses_fd, job_of, next_call, is_for_script, awaits, after_run}
use Rattle.flash_laws.specs.Client.{after_reply}
use Rattle.flash_laws.specs.Conn as conn
use Rattle.flash_laws.specs.Conn.{begins, most_read}
use Rattle.flash_laws.specs.Conn.Fits.{Names, is_closing}
use Rattle.flash_laws.specs.Client.ResponseState.{Known, OfFile, OfScript, of_text, taken_before, IsNextOf, HasKnown}
use Rattle.flash_laws.specs.Conn.Progress.{Rank, Nears, CanMake, is_busy}
use Rattle.flash_laws.specs.Conn.OfferedBytes as file
use Rattle.flash_laws.specs.Conn.OfferedBytes.{FirstCall, newly_taken, is_dropping, may_repeat}
use Rattle.flash_laws.specs.Run.Fits.{Progress, HasJobPipe, HasRun}
use Rattle.flash_laws.specs.Run.OfferedBytes as run
use Rattle.flash_laws.specs.Run as running
use Rattle.flash_laws.specs.Run.{job_pipe, is_over}
use Rattle.flash_laws.specs.Site.{server}
use Rattle.flash_laws.specs.declared.phase.Phase.{Phase}
use Rattle.flash_laws.specs.declared.phase.Phase.TheVariants as phase
use Rattle.flash_laws.specs.declared.script_run.Step.TheVariants.{WritingJob}
use Rattle.flash_laws.specs.declared.script_run.Running.{Running}
use Rattle.flash_laws.specs.declared.script_run.Running.TheVariants.{InProgress}

-- a client for which this request begins
abbrev pub begun : (buffered : List ℕ) → Answer → Client
begun buffered q = record {
  conn = record { buffered = buffered; request = q; phase = begins q };
  run = None;
  script = [];
}

-- whether only the close of its connection is left to do
abbrev pub is_ending : Client → Bool
is_ending x = by x.run
  where
    by : Option Running → Bool
    by None = is_closing x.conn.phase
    by (Some y) = is_over y

-- The result of the calls for a file or for the text of a script, after the reply to one.
abbrev pub ConnUpdates : (script : Bool) → Phase → Reply → (received : List ℕ) → (before after : Known) → Type 0
ConnUpdates true (phase.Reading f) (reply.Agg n) received before after = after ≡ of_text received
ConnUpdates script d r received (OfFile o) after = (p : Outcome) × file.Updates d r received o p × (after ≡ OfFile p)
ConnUpdates script d r received (OfScript text o) after = after ≡ OfScript text o

-- the result of the calls of a run
abbrev pub RunUpdates : State → Running → Reply → (received : List ℕ) → (before after : Known) → Type 0
RunUpdates m y r received (OfScript text o) after = (p : Progress) × run.Updates m y r received o p
    × (after ≡ OfScript text p)
RunUpdates m y r received (OfFile o) after = ⊥

abbrev pub Updates : (scripts : Bool) → State → Client → Reply → (received : List ℕ) → (before after : Known) → Type 0
Updates scripts m x r received before after = by x.run
  where
    by : Option Running → Type 0
    by None = ConnUpdates (is_for_script scripts x.conn.request) x.conn.phase r received before after
    by (Some y) = RunUpdates m y r received before after

-- the number of bytes taken of those that are being sent
abbrev pub taken_by : Client → ℕ
taken_by x = by x.run
  where
    by : Option Running → ℕ
    by None = file.taken_of x.conn.phase
    by (Some y) = run.taken_by y

-- it writes its job into the job pipe of its worker
abbrev pub HandsJob : Client → (fd a : ℕ) → Type 0
HandsJob x fd a = by x.run
  where
    by : Option Running → Type 0
    by (Some (InProgress y (WritingJob j f))) = (fd ≡ job_pipe y.worker) × (a ≡ j)
    by y = ⊥

-- whether it has a phase that ends
abbrev pub is_working : Client → Bool
is_working x = by x.run
  where
    by : Option Running → Bool
    by None = is_busy x.conn.phase
    by (Some y) = not (is_over y)

-- more of its script's output was read
abbrev pub ReceivesMore : Client → Reply → (received : List ℕ) → Type 0
ReceivesMore x r received = by x.run
  where
    by : Option Running → Type 0
    by None = ⊥
    by (Some y) = run.ReceivesMore y r received

-- whether its output is dropped
abbrev pub drops_rest : Client → Bool
drops_rest x = by x.run
  where
    by : Option Running → Bool
    by None = is_dropping x.conn.phase
    by (Some y) = run.breaks_off y

-- the buffered stream after a reply: the former one, followed by the bytes of the stream that were read
abbrev pub buffered_after : Client → Reply → (received : List ℕ) → List ℕ
buffered_after x r received = by x.run x.conn.phase r
  where
    by : Option Running → Phase → Reply → List ℕ
    by None phase.Receiving (reply.Agg n) = x.conn.buffered ++ received
    by y d r = x.conn.buffered

-- The client advances as its run does, with its connection unchanged; once the run is over, the connection continues
-- its phase.
pub record ProceedsAs (x : Client) (z : Running) (after : Client) : Type 0 where
  pub going : IsFalse (is_over z) → (after.run ≡ Some z) × (after.conn ≡ x.conn)
  pub ended : IsTrue (is_over z)
      → after ≡ record { conn = record x.conn { phase = after_run z }; run = None; script = [] }

-- A client with a run makes the calls of the run, uses and has the same, and advances with it; so the laws of runs
-- (`Run/OfferedBytes`) apply to it.
pub record IsAsItsRun (scripts : Bool) (m : State) (x : Client) (w : Wanted) (y : Running) (text : List ℕ)
    (o : Progress) : Type 0 where
  pub has : HasRun (job_of w text) m w o y
  pub asks : (fd : ℕ) → next_call scripts fd x ≡ running.next_call (job_of w text) fd w y
  pub aggs : (a : ℕ) → uses_agg x a ≡ running.uses_agg y a
  pub fds : (g : ℕ) → uses_fd x g ≡ running.uses_fd y g
  pub reports : (worker : ℕ) (r : Reply) (received : List ℕ)
      → ProceedsAs x (running.after_reply worker w y r received) (after_reply scripts worker x r received)

-- A client without a script for its request makes the calls of its connection, uses and has the same, and gets the same
-- replies; so the laws of connections (`Conn/OfferedBytes`) apply to it.
pub record IsAsItsConn (scripts : Bool) (m : State) (x : Client) (o : Outcome) : Type 0 where
  pub has : file.HasAnswer m x.conn o
  pub asks : (fd : ℕ) → next_call scripts fd x ≡ conn.next_call fd x.conn
  pub aggs : (a : ℕ) → uses_agg x a ≡ conn.uses_agg x.conn.phase a
  pub fds : (g : ℕ) → uses_fd x g ≡ conn.uses_fd x.conn.phase g
  pub reports : (worker : ℕ) (r : Reply) (received : List ℕ)
      → after_reply scripts worker x r received ≡ record x { conn = conn.after_reply x.conn r received }

-- `scripts` is whether scripts are run.
pub record ClientOffersTheResponse (scripts : Bool) : Type 0 where
  -- when a request begins, nothing is needed
  pub starts : (m : State) (fd : ℕ) (buffered : List ℕ) (q : Answer) (o : Outcome)
      → FirstCall q (next_call scripts fd (begun buffered q)) × HasKnown scripts m (begun buffered q) (OfFile o)
  -- after the reply to its call the result is known or unchanged, and the machine has the data for the next step; the
  -- free worker is one with a job pipe
  pub replied : (m n : State) (fd c worker : ℕ) (x : Client) (r : Reply) (received : List ℕ) (before : Known)
      → IsOrderly m → HasAccess m
      → IsTrue (is_live m server) → descriptor m server fd ≡ Some (on.Connection c)
      → (IsTrue (awaits x) → HasJobPipe m worker)
      → IsFalse (is_ending x)
      → HasKnown scripts m x before → StepsTo m (event.Call server (next_call scripts fd x)) r n → Names n r received
      → (after : Known) × Updates scripts m x r received before after
      × HasKnown scripts n (after_reply scripts worker x r received) after
  -- the same for any other event that consumes and moves no object that the client uses
  pub stays : (m n : State) (x : Client) (e : Event) (r : Reply) (known : Known) → StepsTo m e r n
      → ((a : ℕ) → IsTrue (uses_agg x a) → IsFalse (gives_up e server a))
      → ((g : ℕ) → IsTrue (uses_fd x g) → IsFalse (touches_fd m e server g)) → HasKnown scripts m x known
      → HasKnown scripts n x known
  -- it writes the next bytes of the response to its connection, or a job to a worker
  pub offers : (m : State) (fd g a : ℕ) (x : Client) (known : Known) → HasKnown scripts m x known
      → next_call scripts fd x ≡ call.IolWrite g a
      → ((g ≡ fd) × IsNextOf m x.conn.request known a (taken_by x)) ⊎ HandsJob x g a
  -- the bytes that the connection took count as taken, while the response is neither over nor aborted
  pub takes : (m n : State) (fd c worker : ℕ) (x : Client) (r : Reply) (received : List ℕ) (before after : Known)
      → IsOrderly m
      → descriptor m server fd ≡ Some (on.Connection c) → IsFalse (is_ending x) → HasKnown scripts m x before
      → StepsTo m (event.Call server (next_call scripts fd x)) r n → Updates scripts m x r received before after
      → IsFalse (drops_rest x) → IsFalse (drops_rest (after_reply scripts worker x r received))
      → IsTrue (is_working (after_reply scripts worker x r received))
      → taken_before after + taken_by (after_reply scripts worker x r received)
      ≡ taken_before before + taken_by x + newly_taken fd (next_call scripts fd x) r
  -- for a request that is not for a script the client behaves as its connection
  pub files : (m : State) (x : Client) (o : Outcome) → IsFalse (is_for_script scripts x.conn.request)
      → HasKnown scripts m x (OfFile o)
      → IsAsItsConn scripts m x o
  -- while a script runs it behaves as its run
  pub runs : (m : State) (x : Client) (w : Wanted) (y : Running) (text : List ℕ) (o : Progress) → x.run ≡ Some y
      → x.conn.request ≡ serve w → IsFalse (is_over y) → HasKnown scripts m x (OfScript text o)
      → IsAsItsRun scripts m x w y text o
  -- the text of a script is read whole, also for HEAD
  pub whole : (fd f : ℕ) (x : Client) → x.run ≡ None → IsTrue (is_for_script scripts x.conn.request)
      → x.conn.phase ≡ phase.Reading f
      → next_call scripts fd x ≡ call.IolRead f most_read
  -- replies leave its request unchanged, and append the bytes read to its buffered stream
  pub keeps : (worker : ℕ) (x : Client) (r : Reply) (received : List ℕ)
      → ((after_reply scripts worker x r received).conn.request ≡ x.conn.request)
      × ((after_reply scripts worker x r received).conn.buffered ≡ buffered_after x r received)
  -- each reply reduces the rank of its request, unless more of its script's output was read, or its call is retried
  -- later
  pub rank : Client → Rank
  pub nears : (m n : State) (fd c worker : ℕ) (x : Client) (r : Reply) (received : List ℕ) (known : Known) → IsOrderly m
      → IsTrue (is_live m server) → descriptor m server fd ≡ Some (on.Connection c) → IsTrue (is_working x)
      → HasKnown scripts m x known → CanMake m (next_call scripts fd x)
      → StepsTo m (event.Call server (next_call scripts fd x)) r n → Names n r received
      → Nears rank x r (after_reply scripts worker x r received) ⊎ ReceivesMore x r received
  -- a successful call is not repeated
  pub moves : (m n : State) (fd worker : ℕ) (x : Client) (r : Reply) (received : List ℕ) (known : Known)
      → IsFalse (is_ending x)
      → HasKnown scripts m x known → StepsTo m (event.Call server (next_call scripts fd x)) r n
      → after_reply scripts worker x r received ≡ x → IsTrue (may_repeat (next_call scripts fd x) r)

abbrev pub ClientsAreOfferedTheResponse : Type 0
ClientsAreOfferedTheResponse = (scripts : Bool) → ClientOffersTheResponse scripts
