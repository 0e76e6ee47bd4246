-- The pending output of a running script: the bytes in its pipe, followed by the bytes that its worker has still to
-- write.
use Rattle.std.specs.Prelude.{◌≡◌, ◌≢◌, ◌⊎◌, ℕ, Bool, true, false, List, [], ◌∷◌, ◌++◌, length, take, drop, Option}
use Rattle.std.specs.Prelude.{Some, None, slice_get, IsTrue, IsFalse, ⊤}
use Rattle.iol_core.specs.Text.{bytes_of}
use Rattle.iol_core.specs.State.{State, descriptor, pipe_at, file, may_read, is_live}
use Rattle.iol_core.specs.Run.{StepsTo}
use Rattle.iol_core.specs.declared.descriptors.Descriptor.TheVariants as on
use Rattle.iol_core.specs.declared.descriptors.Mode.TheVariants.{Read}
use Rattle.iol_core.specs.declared.events.Event.TheVariants as event
use Rattle.iol_core.specs.declared.events.Reply.{Reply}
use Rattle.iol_core.specs.declared.events.Reply.TheVariants as reply
use Rattle.iol_laws.specs.Caller.{readable_at, ClosesWriteEnd}
use Rattle.iol_laws.specs.Order.{IsOrderly}
use Rattle.flash_cgi.specs.Collecting.{Collected, collected, collected_in, without_last}
use Rattle.flash_cgi.specs.Job.{Task}
use Rattle.flash_cgi.specs.Output.{Outcome, Found, Failed, output, by_first, cat_of, wc_of}
use Rattle.flash_cgi.specs.Pieces.{HoldsAt}
use Rattle.flash_cgi.specs.WorkerSteps.{said_text, bytes_at, call_at, expected_now, after_reply}
use Rattle.flash_cgi.specs.declared.line.Line.{Line}
use Rattle.flash_cgi.specs.declared.line.Line.TheVariants as line
use Rattle.flash_cgi.specs.declared.phase.Purpose.{Purpose}
use Rattle.flash_cgi.specs.declared.phase.Purpose.TheVariants as purpose
use Rattle.flash_cgi.specs.declared.phase.Phase.{Phase}
use Rattle.flash_cgi.specs.declared.phase.Phase.TheVariants as phase
use Rattle.flash_cgi.specs.declared.phase.Step.{Step}

-- ---- the bytes still to be written

abbrev pub output_for : Purpose → Outcome → List ℕ
output_for purpose.Cat o = cat_of o
output_for purpose.Wc o = wc_of o

-- of the lines not yet begun
abbrev pub rest_of : Task → (begun : ℕ) → List Outcome → List ℕ
rest_of job begun os = output job.query (drop begun job.lines) os

-- the buffered output, followed by these
abbrev pub then_rest : Task → (begun : ℕ) → (ℕ → Option (List ℕ)) → Collected → List Outcome → List ℕ
then_rest job begun readable x os = collected readable x ++ rest_of job begun os

-- the text with these bytes inserted at this place
abbrev pub set_in : (text : List ℕ) → (at : ℕ) → (bytes : List ℕ) → List ℕ
set_in text at bytes = take at text ++ (bytes ++ drop at text)

abbrev pub still_phase : Task → (begun : ℕ) → (ℕ → Option (List ℕ)) → Collected → Phase → List Outcome → List ℕ
still_phase job begun readable x phase.Waiting os = []
still_phase job begun readable x (phase.DroppingOther agg) os = []
still_phase job begun readable x (phase.Aborting agg) os = []
still_phase job begun readable x phase.Interpreting os = then_rest job begun readable x os
still_phase job begun readable x (phase.DroppingWritten agg) os = then_rest job begun readable x os
still_phase job begun readable x (phase.Reading file p) os =
    collected readable x ++ by_first (output_for p) (rest_of job begun) os
still_phase job begun readable x (phase.DroppingCounted file agg s) os =
    collected readable x ++ (said_text s ++ rest_of job begun os)
still_phase job begun readable x (phase.ClosingCounted file s) os =
    collected readable x ++ (said_text s ++ rest_of job begun os)
still_phase job begun readable x (phase.ClosingFile file agg) os =
    collected readable x ++ (bytes_at readable agg ++ rest_of job begun os)
still_phase job begun readable x (phase.JoiningFile held agg from len) os =
    collected readable x ++ (bytes_at readable agg ++ rest_of job begun os)
still_phase job begun readable x (phase.CuttingPart held agg from) os =
    collected_in readable (bytes_at readable agg) x ++ rest_of job begun os
still_phase job begun readable x (phase.ReplacingPart agg part at) os =
    collected_in readable (set_in (bytes_at readable agg) at (bytes_at readable part)) (without_last x)
    ++ rest_of job begun os
still_phase job begun readable x (phase.DroppingText agg part made) os =
    collected_in readable (bytes_at readable made) x ++ rest_of job begun os
still_phase job begun readable x (phase.DroppingPart part made) os =
    collected_in readable (bytes_at readable made) x ++ rest_of job begun os
still_phase job begun readable x (phase.Writing agg) os = bytes_at readable agg ++ then_rest job begun readable x os
still_phase job begun readable x (phase.CuttingRest agg from to) os = drop from (bytes_at readable agg) ++ then_rest job begun readable x os
still_phase job begun readable x (phase.DroppingTaken agg rest) os =
    bytes_at readable rest ++ then_rest job begun readable x os

-- the bytes still to be written, with these outcomes of the files still to be read
abbrev pub still : Task → (ℕ → Option (List ℕ)) → Step → List Outcome → List ℕ
still job readable step os = still_phase job step.begun readable step.piece step.phase os

-- ---- requirements on the machine

abbrev pub HasBytes : State → (d agg : ℕ) → Type 0
HasBytes m d agg = (bytes : List ℕ) × (readable_at m d agg ≡ Some bytes)

-- a file that the domain may read is open under this number
pub record IsOpenFile (m : State) (d fd : ℕ) : Type 0 where
  pub number : ℕ
  pub place : ℕ
  pub open_on : descriptor m d fd ≡ Some (on.File number place Read)
  pub may : IsTrue (may_read m d (file m number).pool)

-- a file is open under this number
abbrev pub IsFileOpen : State → (d fd : ℕ) → Type 0
IsFileOpen m d fd = (number : ℕ) × (place : ℕ) × (descriptor m d fd ≡ Some (on.File number place Read))

abbrev pub Needs : State → (d : ℕ) → Phase → Type 0
Needs m d phase.Waiting = ⊥
Needs m d (phase.DroppingOther agg) = ⊥
Needs m d (phase.Aborting agg) = ⊥
Needs m d phase.Interpreting = ⊤
Needs m d (phase.JoiningFile held agg from len) = ⊤
Needs m d (phase.CuttingPart held agg from) = ⊤
Needs m d (phase.ReplacingPart agg part at) = ⊤
Needs m d (phase.DroppingText agg part made) = ⊤
Needs m d (phase.DroppingPart part made) = ⊤
Needs m d (phase.DroppingWritten agg) = HasBytes m d agg
Needs m d (phase.Reading file p) = IsOpenFile m d file
Needs m d (phase.ClosingCounted file s) = IsFileOpen m d file
Needs m d (phase.DroppingCounted file agg s) = IsFileOpen m d file × HasBytes m d agg
Needs m d (phase.ClosingFile file agg) = IsFileOpen m d file × HasBytes m d agg
Needs m d (phase.Writing agg) = HasBytes m d agg
Needs m d (phase.CuttingRest agg from to) = (bytes : List ℕ) × (readable_at m d agg ≡ Some bytes) × (to ≡ length bytes)
Needs m d (phase.DroppingTaken agg rest) = HasBytes m d rest × (agg ≢ rest)

-- The worker in domain d runs a job with its output to pipe p: for all outcomes to come, the pending output is the
-- bytes in the pipe, followed by the bytes still to be written.
pub record Feeds (m : State) (d p : ℕ) (job : Task) (step : Step) (unseen : List Outcome → List ℕ) : Type 0 where
  pub live : IsTrue (is_live m d)
  pub open_on : descriptor m d job.fd ≡ Some (on.WriteEnd p)
  pub needs : Needs m d step.phase
  pub holds : HoldsAt (readable_at m d) step.piece step.phase
  pub is : (os : List Outcome) → unseen os ≡ bytes_of (pipe_at m p).queue ++ still job (readable_at m d) step os

-- ---- its own calls

abbrev pub failed : Reply → List Outcome
failed (reply.Refused x) = Failed x ∷ []
failed r = []

abbrev pub resolved_open : Option Line → Reply → List Outcome
resolved_open (Some (line.Cat name)) r = failed r
resolved_open (Some (line.Wc name)) r = failed r
resolved_open l r = []

abbrev pub resolved_read : (ℕ → Option (List ℕ)) → Reply → List Outcome
resolved_read readable (reply.Agg agg) = Found (bytes_at readable agg) ∷ []
resolved_read readable r = failed r

-- making an aggregate of the buffered text settles none
abbrev pub resolved_begun : (expected : Bool) → Option Line → Reply → List Outcome
resolved_begun true l r = []
resolved_begun false l r = resolved_open l r

abbrev pub resolved_phase : Task → Collected → (begun : ℕ) → (ℕ → Option (List ℕ)) → Phase → Reply → List Outcome
resolved_phase job x begun readable phase.Interpreting r =
    resolved_begun (expected_now job x begun) (slice_get job.lines begun) r
resolved_phase job x begun readable (phase.Reading file p) r = resolved_read readable r
resolved_phase job x begun readable d r = []

-- the outcome that a reply settles, if any
abbrev pub resolved : Task → Step → (ℕ → Option (List ℕ)) → Reply → List Outcome
resolved job step readable r = resolved_phase job step.piece step.begun readable step.phase r

-- the script is over: all of its output was written, and the pipe's write end is closed
pub record Ends (m : State) (d p : ℕ) (unseen : List Outcome → List ℕ) (r : Reply) (next : Step) (n : State) :
    Type 0 where
  pub free : next.phase ≡ phase.Waiting
  pub all : (os : List Outcome) → unseen os ≡ bytes_of (pipe_at m p).queue
  pub done : r ≡ reply.Done
  pub closes : ClosesWriteEnd m p r n

-- the result of the reply r, from m to n
abbrev pub ComesTo : (m : State) → (d p : ℕ) → Task → Step → (List Outcome → List ℕ) → (r : Reply) → (n : State)
    → Option Step → Type 0
ComesTo m d p job step unseen r n None = n ≡ m
ComesTo m d p job step unseen r n (Some next) =
    Feeds n d p job next (λ os. unseen (resolved job step (readable_at n d) r ++ os))
    ⊎ (Ends m d p unseen r next n ⊎ IsFalse (pipe_at n p).reading)

abbrev pub Comes : (m : State) → (d p : ℕ) → Task → Step → (List Outcome → List ℕ) → (r : Reply) → (n : State) → Type 0
Comes m d p job step unseen r n = ComesTo m d p job step unseen r n (after_reply job step (readable_at n d) r)

-- A worker's call preserves the pending output, until all of it is written or the pipe has no reader.
abbrev pub FeedsOn : Type 0
FeedsOn = (m n : State) (d p : ℕ) (job : Task) (step : Step) (r : Reply) (unseen : List Outcome → List ℕ) → IsOrderly m
    → Feeds m d p job step unseen → StepsTo m (event.Call d (call_at job step)) r n → Comes m d p job step unseen r n
