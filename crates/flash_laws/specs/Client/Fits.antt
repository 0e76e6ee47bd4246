-- The invariant of one client, by the input and output of its connection: without a script, or with the run of one.
use Rattle.std.specs.Prelude.{◌≡◌, ◌≤◌, ℕ, ◌+◌, ◌⊎◌, Bool, true, false, List, [], ◌∷◌, ◌++◌, length, take, Option, Some}
use Rattle.std.specs.Prelude.{None, is_none, if◌then◌else◌, IsTrue, IsFalse, ⊤}
use Rattle.std.specs.List.{list_all}
use Rattle.iol_core.specs.Text.{bytes_of}
use Rattle.iol_core.specs.State.{State, Connection, descriptor, content, file, may_read, conn_at, is_gone}
use Rattle.iol_core.specs.declared.descriptors.Descriptor.TheVariants as on
use Rattle.iol_core.specs.declared.descriptors.Mode.TheVariants as modes
use Rattle.iol_proc.specs.declared.process_slot.ProcessSlot.{ProcessSlot}
use Rattle.flash_http.specs.declared.windows.Window.TheVariants.{Wait}
use Rattle.flash_http.specs.Window.{window_in}
use Rattle.flash_http.specs.Request.{Answer, serve, refuse, Wanted}
use Rattle.flash_cgi.specs.Expected.{Made, text_of as output_of}
use Rattle.flash_cgi.specs.Output.{Outcome}
use Rattle.flash_cgi.specs.Script.{script_of}
use Rattle.flash_cgi.specs.declared.line.Line.{Line}
use Rattle.flash_laws.specs.Answers.Scripts.{script_response}
use Rattle.flash_laws.specs.Answers.{Found, keeps, Reads, last_may_close, last_closes}
use Rattle.flash_laws.specs.Client.{Client, is_for_script, can_run, job_of, keeps_text}
use Rattle.flash_laws.specs.Conn.{most_buffered, most_read, name_of, text_of, is_head_only}
use Rattle.flash_laws.specs.Workers.WorkerSet.{WorkerSet}
use Rattle.flash_laws.specs.SiteContents.Expected.{outcomes_by}
use Rattle.flash_laws.specs.Conn.Fits.{Has, quits, asked}
use Rattle.flash_laws.specs.Conn.ShortHeads.{is_error_status, FileResultIsShort, ContentIsShort}
use Rattle.flash_laws.specs.Client.ResponseState.{is_read}
use Rattle.flash_laws.specs.Conn.OfferedBytes.{taken_of}
use Rattle.flash_laws.specs.Run.Fits as run
use Rattle.flash_laws.specs.Run.Fits.{Progress, HasRun}
use Rattle.flash_laws.specs.Run.OfferedBytes.{past_of, taken_by, breaks_off}
use Rattle.flash_laws.specs.Run.{is_over}
use Rattle.flash_laws.specs.SiteContents.{SiteContents, MayBeExpected, AllMayShow, Responds, Begins}
use Rattle.flash_laws.specs.Site.{server}
use Rattle.flash_laws.specs.Run.WorkerStates.{HasWorkerAt, is_starting}
use Rattle.flash_laws.specs.declared.phase.FileResult.TheVariants.{Text}
use Rattle.flash_laws.specs.declared.phase.Payload.TheVariants.{Script}
use Rattle.flash_laws.specs.declared.phase.Phase.{Phase}
use Rattle.flash_laws.specs.declared.phase.Phase.TheVariants as phase
use Rattle.flash_laws.specs.declared.script_run.Running.{Running}

-- a request whose query is no longer than a head, and that closes the connection if its response has no chunks, or a
-- request that is refused with a status of this server: all requests in a stream are such
abbrev pub IsProper : Answer → Type 0
IsProper (serve w) = (length w.query ≤ most_buffered) × (IsFalse w.chunked → IsFalse w.keep)
IsProper (refuse status head_only close) = IsTrue (is_error_status status)

-- whether there is no request
abbrev pub is_at_rest : Phase → Bool
is_at_rest phase.Receiving = true
is_at_rest (phase.DroppingInput a) = true
is_at_rest d = false

-- All is answered: the last response closes the connection, or the stream is at its end, and no request is left.
pub record Finished (site_contents : SiteContents) (k : Connection) (took out : List ℕ) : Type 0 where
  pub qs : List Answer
  pub rest : List ℕ
  pub reads : Reads took qs rest
  pub order : IsTrue (last_may_close qs)
  pub responds : Responds site_contents qs out
  pub no_more : IsTrue (last_closes qs) ⊎ ((window_in rest ≡ Wait) × (k.incoming ≡ []) × IsFalse (is_none k.peer))

-- The requests before the one in progress have their whole responses, that one has these bytes, and the rest of the
-- stream is buffered.
pub record Answers (site_contents : SiteContents) (took out buffered : List ℕ) (now : List Answer) (given : List ℕ) :
    Type 0 where
  pub done : List Answer
  pub open_yet : IsTrue (list_all (λ p. keeps p) done)
  pub reads : Reads took (done ++ now) buffered
  pub before : List ℕ
  pub responds : Responds site_contents done before
  pub out_is : out ≡ before ++ given

-- The peer is gone, which drops the queued output; the bytes sent begin the answer.
pub record IsLeftAlone (site_contents : SiteContents) (k : Connection) (took out : List ℕ) : Type 0 where
  pub gone : IsTrue (is_gone k.peer)
  pub begins : Begins site_contents took out

-- ---- without a script

-- the part of the response to the request in progress that was given, if taken bytes of it were taken
abbrev pub given_of : (expected : List ℕ) → (rests : Bool) → (taken : ℕ) → List ℕ
given_of expected rests taken = if rests then [] else take taken expected

-- the text that the phase makes or sends: the head for a script after its text was read, otherwise the response
abbrev pub expected_in : (expected : List ℕ) → Answer → Phase → List ℕ
expected_in expected q d = if is_read d then text_of q Script else expected

module _ (site_contents : SiteContents) where
  -- the text of a script that can run was read, and is buffered unless the request is HEAD
  pub record HasText (q : Answer) (script : List ℕ) : Type 0 where
    pub asks : IsTrue (is_for_script site_contents.scripts q)
    pub text : List ℕ
    pub found : site_contents.finds (name_of q) ≡ Found text
    pub runs : IsTrue (can_run text)
    pub buffered : IsFalse (is_head_only q) → script ≡ text

  -- the file that is being read is the requested one
  pub record FindsFile (m : State) (q : Answer) (fd : ℕ) : Type 0 where
    pub number : ℕ
    pub open_on : descriptor m server fd ≡ Some (on.File number 0 modes.Read)
    pub may : IsTrue (may_read m server (file m number).pool)
    pub short : length (content m number) ≤ most_read
    pub found : site_contents.finds (name_of q) ≡ Found (content m number)

  abbrev pub Finds : State → Answer → (script : List ℕ) → Phase → Type 0
  Finds m q script (phase.Reading f) = FindsFile m q f
  Finds m q script (phase.ClosingFile f (Text a true)) = HasText q script
  Finds m q script (phase.ClosingFile f k) = FileResultIsShort k
  Finds m q script (phase.Slicing a from to len) = len ≤ most_read
  Finds m q script (phase.DroppingWhole a Script) = HasText q script
  Finds m q script (phase.DroppingWhole a k) = ContentIsShort k
  Finds m q script (phase.MakingHead k) = ContentIsShort k
  Finds m q script d = ⊤

  -- all is answered, and the connection will only be closed
  pub record IsFinished (k : Connection) (took out : List ℕ) (d : Phase) : Type 0 where
    pub quits : IsTrue (quits d)
    pub finished : Finished site_contents k took out
    pub begins : Begins site_contents took out

  abbrev pub ConsistencyAlone : (expected : List ℕ) → Connection → (took sent : List ℕ) → Client → Type 0
  ConsistencyAlone expected k took sent x =
      (IsFalse (quits x.conn.phase) × Answers site_contents took (sent ++ bytes_of k.outgoing) x.conn.buffered
      (asked x.conn.request x.conn.phase)
      (given_of expected (is_at_rest x.conn.phase) (taken_of x.conn.phase)))
      ⊎ (IsFinished k took (sent ++ bytes_of k.outgoing) x.conn.phase
      ⊎ IsLeftAlone site_contents k took (sent ++ bytes_of k.outgoing))

  -- A client without running script: the server's descriptor refers to its connection; the bytes that the server took
  -- are those received without the queued ones; and the client has the invariant.
  pub record FitsAlone (m : State) (came sent : List ℕ) (fd c : ℕ) (x : Client) : Type 0 where
    pub open_on : descriptor m server fd ≡ Some (on.Connection c)
    pub took : List ℕ
    pub came_is : came ≡ took ++ bytes_of (conn_at m c).incoming
    -- the response to the request in progress
    pub expected : List ℕ
    pub may : MayBeExpected site_contents x.conn.request expected
    pub consistency : ConsistencyAlone expected (conn_at m c) took sent x
    pub has : Has m x.conn.request (expected_in expected x.conn.request x.conn.phase) x.conn.phase
    pub finds : Finds m x.conn.request x.script x.conn.phase
    pub proper : IsProper x.conn.request

-- ---- with the run of a script

-- its output, with these outcomes of its files, past or to come
abbrev pub made_of : Wanted → List Line → (shown : List Outcome) → Made
made_of w lines shown = record { before = []; query = w.query; lines = lines; outcomes = shown }

-- and the response with that output
abbrev pub response_to : Wanted → Made → List ℕ
response_to w made = script_response w (output_of made)

module _ (site_contents : SiteContents) where
  -- The script that a client requested, and its output.
  pub record IsScript (x : Client) (w : Wanted) : Type 0 where
    pub asks : x.conn.request ≡ serve w
    pub stands : x.conn.phase ≡ phase.MakingHead Script
    pub get : IsFalse w.head_only
    pub is_for : IsTrue (is_for_script site_contents.scripts (serve w))
    pub text : List ℕ
    pub found : site_contents.finds w.name ≡ Found text
    pub lines : List Line
    pub is_script : script_of text ≡ Some lines
    pub proper : IsProper (serve w)

  -- the expected response may be the one that is being sent
  pub record Proceeds (expected : List ℕ) (took out buffered : List ℕ) (w : Wanted) (o : Progress) (y : Running) :
      Type 0 where
    pub answers : Answers site_contents took out buffered (serve w ∷ []) (take (past_of o + taken_by y) expected)
    pub may : run.MayAnswer w o expected
    pub whole : IsFalse (breaks_off y)

  abbrev pub ConsistencyRun : (expected : List ℕ) → Connection → (took sent buffered : List ℕ) → Wanted → Progress
      → Running
      → Type 0
  ConsistencyRun expected k took sent buffered w o y =
      Proceeds expected took (sent ++ bytes_of k.outgoing) buffered w o y
      ⊎ IsLeftAlone site_contents k took (sent ++ bytes_of k.outgoing)

module _ (site_contents : SiteContents) (worker_set : WorkerSet) where
  -- A client for which a script runs.
  pub record FitsRun (m : State) (came sent : List ℕ) (fd c : ℕ) (x : Client) (y : Running)
      (process_slots : List (ProcessSlot worker_set.Worker)) : Type 0 where
    pub open_on : descriptor m server fd ≡ Some (on.Connection c)
    pub took : List ℕ
    pub came_is : came ≡ took ++ bytes_of (conn_at m c).incoming
    pub wanted : Wanted
    pub script : IsScript site_contents x wanted
    -- the outcomes of its files, past or to come: those of the current files until the worker has the job
    pub shown : List Outcome
    pub may_show : AllMayShow site_contents (outcomes_by site_contents.shows script.lines) shown
    pub fresh : IsTrue (is_starting y) → shown ≡ outcomes_by site_contents.shows script.lines
    pub buffered : IsTrue (keeps_text y) → x.script ≡ script.text
    pub so_far : Progress
    pub has : HasRun (job_of wanted script.text) m wanted so_far y
    pub ongoing : IsFalse (is_over y)
    pub consistency : ConsistencyRun site_contents (response_to wanted (made_of wanted script.lines shown))
        (conn_at m c) took sent x.conn.buffered wanted so_far y
    pub job_queue : HasWorkerAt worker_set m process_slots (made_of wanted script.lines shown) so_far y

  abbrev pub FitsBy : Option Running → State → (came sent : List ℕ) → (fd c : ℕ) → Client
      → List (ProcessSlot worker_set.Worker) → Type 0
  FitsBy None m came sent fd c x process_slots = FitsAlone site_contents m came sent fd c x
  FitsBy (Some y) m came sent fd c x process_slots = FitsRun m came sent fd c x y process_slots

  -- The invariant of a client; `came` are the bytes received, and `sent` those sent.
  abbrev pub Fits : State → (came sent : List ℕ) → (fd c : ℕ) → Client → List (ProcessSlot worker_set.Worker) → Type 0
  Fits m came sent fd c x process_slots = FitsBy x.run m came sent fd c x process_slots
