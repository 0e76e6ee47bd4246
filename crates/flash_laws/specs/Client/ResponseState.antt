-- The known part of the response to a request, of a file or of a script, and the machine's data of it.
use Rattle.std.specs.Prelude.{◌≡◌, ℕ, ◌+◌, Bool, true, false, List, [], ◌++◌, drop, Option, Some, None, if◌then◌else◌}
use Rattle.std.specs.Prelude.{IsTrue, IsFalse, ⊤}
use Rattle.iol_core.specs.State.{State}
use Rattle.iol_laws.specs.Caller.{readable_at}
use Rattle.flash_http.specs.Request.{Answer, serve, refuse, Wanted}
use Rattle.flash_laws.specs.Answers.{Outcome, Failed, response, script_text}
use Rattle.flash_laws.specs.Client.{Client, is_for_script, job_of, can_run, keeps_text}
use Rattle.flash_laws.specs.Conn.Fits.{Has}
use Rattle.flash_laws.specs.Run.Fits as run
use Rattle.flash_laws.specs.Run.Fits.{Progress, Broken, nothing_yet, IsLeft, HasRun}
use Rattle.flash_laws.specs.Run.OfferedBytes.{past_of}
use Rattle.flash_laws.specs.Site.{server}
use Rattle.flash_laws.specs.declared.phase.FileResult.TheVariants.{Text}
use Rattle.flash_laws.specs.declared.phase.Payload.TheVariants.{Script}
use Rattle.flash_laws.specs.declared.phase.Phase.{Phase}
use Rattle.flash_laws.specs.declared.phase.Phase.TheVariants as phase
use Rattle.flash_laws.specs.declared.script_run.Running.{Running}

-- The results of the calls for a request so far.
pub data Known : Type 0 where
  -- the outcome of the calls for a file, or the reason for which a script is not run
  OfFile : Outcome → Known
  -- the text of a script that can run, and its progress
  OfScript : (text : List ℕ) → Progress → Known

-- whether such a text runs: the response is its output
abbrev pub of_text : List ℕ → Known
of_text text = if can_run text then OfScript text nothing_yet else OfFile (Failed 500)

-- ---- possible responses

-- for HEAD only the head, and no script runs
abbrev pub MaySendOutput : (head_only : Bool) → Wanted → Progress → List ℕ → Type 0
MaySendOutput true w o r = r ≡ script_text w
MaySendOutput false w o r = run.MayAnswer w o r

-- The possible responses with the known results: for a file there is one; for a script it is the response to its
-- output, for every further output.
abbrev pub MayAnswer : Answer → Known → List ℕ → Type 0
MayAnswer q (OfFile o) r = r ≡ response q o
MayAnswer (serve w) (OfScript text o) r = MaySendOutput w.head_only w o r
MayAnswer (refuse status head_only close) (OfScript text o) r = ⊥

-- the bytes of the response that were taken in aggregates before the current one
abbrev pub taken_before : Known → ℕ
taken_before (OfFile o) = 0
taken_before (OfScript text o) = past_of o

-- the bytes of an aggregate are the next of each possible response
pub record IsNextOf (m : State) (q : Answer) (known : Known) (a taken : ℕ) : Type 0 where
  pub bytes : List ℕ
  pub is_readable : readable_at m server a ≡ Some bytes
  pub next : (r : List ℕ) → MayAnswer q known r
      → (after : List ℕ) × (bytes ++ after ≡ drop (taken_before known + taken) r)

-- ---- the machine's data of it

-- whether the text of a script is read but has not begun to run
abbrev pub is_read : Phase → Bool
is_read (phase.ClosingFile f (Text a true)) = true
is_read (phase.DroppingWhole a Script) = true
is_read d = false

-- whether a file, or a script, is still to be opened or read
abbrev pub is_opening : Phase → Bool
is_opening phase.Opening = true
is_opening (phase.Reading f) = true
is_opening d = false

-- whether nothing of a response is being made or sent
abbrev pub is_silent : Phase → Bool
is_silent phase.Receiving = true
is_silent (phase.DroppingInput a) = true
is_silent (phase.AbortingPiece piece a more) = true
is_silent (phase.Aborting a more) = true
is_silent phase.Disconnecting = true
is_silent d = is_read d

-- the run is to begin, with the text that was read
pub record IsToRun (x : Client) (text : List ℕ) (o : Progress) : Type 0 where
  pub buffered : x.script ≡ text
  pub fresh : o ≡ nothing_yet

-- all of the response was taken, or it was aborted
abbrev pub IsTaken : Wanted → Progress → Type 0
IsTaken w Broken = ⊤
IsTaken w o = IsLeft w o []

-- After the run the connection is idle if all of the response was taken and permits it; otherwise it is to be closed.
abbrev pub IsAfter : Wanted → Progress → Phase → Type 0
IsAfter w o phase.Receiving = IsLeft w o [] × IsTrue w.keep
IsAfter w o (phase.DroppingInput a) = IsLeft w o [] × IsTrue w.keep
IsAfter w o d = IsTaken w o

abbrev pub ReadsOn : (read : Bool) → Wanted → Client → (text : List ℕ) → Progress → Type 0
ReadsOn true w x text o = IsToRun x text o
ReadsOn false w x text o = IsAfter w o x.conn.phase

-- HEAD is answered as for a file; for GET nothing is sent before the run begins, or after it
abbrev pub Sends : (head_only : Bool) → Wanted → Client → (text : List ℕ) → Progress → Type 0
Sends true w x text o = o ≡ nothing_yet
Sends false w x text o = IsTrue (is_silent x.conn.phase) × ReadsOn (is_read x.conn.phase) w x text o

-- no run has begun, or it is over
pub record HasNoRun (scripts : Bool) (m : State) (w : Wanted) (x : Client) (text : List ℕ) (o : Progress) : Type 0 where
  pub script : IsTrue (is_read x.conn.phase) → IsTrue (is_for_script scripts (serve w))
  pub read : IsFalse (is_opening x.conn.phase)
  pub has : Has m (serve w) (script_text w) x.conn.phase
  pub sends : Sends w.head_only w x text o

-- a run has the connection
pub record IsRun (m : State) (w : Wanted) (y : Running) (script text : List ℕ) (o : Progress) : Type 0 where
  pub answers : IsFalse w.head_only
  pub has : HasRun (job_of w text) m w o y
  pub buffered : IsTrue (keeps_text y) → script ≡ text

abbrev pub RunsIn : (scripts : Bool) → State → Wanted → Client → (text : List ℕ) → Progress → Option Running → Type 0
RunsIn scripts m w x text o None = HasNoRun scripts m w x text o
RunsIn scripts m w x text o (Some y) = IsRun m w y x.script text o

abbrev pub HasScript : (scripts : Bool) → State → Client → Answer → (text : List ℕ) → Progress → Type 0
HasScript scripts m x (serve w) text o = RunsIn scripts m w x text o x.run
HasScript scripts m x (refuse status head_only close) text o = ⊥

-- for a file
pub record HasFile (m : State) (x : Client) (o : Outcome) : Type 0 where
  pub none : x.run ≡ None
  pub unread : IsFalse (is_read x.conn.phase)
  pub has : Has m x.conn.request (response x.conn.request o) x.conn.phase

-- The machine has the data that the response needs, with the known results.
abbrev pub HasKnown : (scripts : Bool) → State → Client → Known → Type 0
HasKnown scripts m x (OfFile o) = HasFile m x o
HasKnown scripts m x (OfScript text o) = HasScript scripts m x x.conn.request text o
