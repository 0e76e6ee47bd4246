-- The text that a script outputs, from its job to its end, whatever others do.
use Rattle.std.specs.Prelude.{◌≡◌, ◌≢◌, ◌⊎◌, ℕ, Bool, List, [], ◌∷◌, ◌++◌, Some, IsTrue, IsFalse, ⊤}
use mathlib.Core.Logic.{inl, inr}
use Rattle.iol_core.specs.Text.{bytes_of}
use Rattle.iol_core.specs.State.{State, descriptor, pipe_at}
use Rattle.iol_core.specs.Positions.{ArePlaced}
use Rattle.iol_core.specs.Run.{StepsTo}
use Rattle.iol_core.specs.declared.descriptors.Descriptor.TheVariants as on
use Rattle.iol_core.specs.declared.events.Event.{Event}
use Rattle.iol_core.specs.declared.events.Reply.{Reply}
use Rattle.iol_core.specs.declared.events.Reply.TheVariants as reply
use Rattle.iol_core.specs.declared.refusals.Refusal.{Refusal}
use Rattle.iol_laws.specs.Caller.{is_resource_failure, ClosesWriteEnd}
use Rattle.iol_laws.specs.Order.{IsOrderly}
use Rattle.iol_laws.specs.Others.{GoesFromFront}
use Rattle.iol_proc.specs.Turns.{ProcessSlotTurn}
use Rattle.iol_proc.specs.World.{copying}
use Rattle.iol_proc.specs.declared.process_slot.ProcessSlot.{ProcessSlot}
use Rattle.flash_cgi.specs.Beside.{is_call_of, LeavesFiles}
use Rattle.flash_cgi.specs.Free.{HasNoJob}
use Rattle.flash_cgi.specs.Outcomes.{AreFiles, outcomes_in}
use Rattle.flash_cgi.specs.Output.{Outcome, Failed, output}
use Rattle.flash_cgi.specs.JobStart.{HasJob}
use Rattle.flash_cgi.specs.Turns.{IsFree, RunsJob, outcomes_to_come, ReadsItsFile}
use Rattle.flash_cgi.specs.Works.{worker_turns}
use Rattle.flash_cgi.specs.declared.line.Line.{Line}
use Rattle.flash_cgi.specs.declared.worker.Worker.{Worker}

-- The output of a script: the bytes in the pipe before, followed by the output of its lines, with the outcome of each
-- file that they name, past or to come.
pub record Made : Type 0 where
  pub before : List ℕ
  pub query : List ℕ
  pub lines : List Line
  pub outcomes : List Outcome

abbrev pub text_of : Made → List ℕ
text_of made = made.before ++ output made.query made.lines made.outcomes

-- One of its files gets the refusal of the reply, TooMany, NoRoom, Fault or Memory, instead of the outcome to come.
pub record IsRefusedIn (r : Reply) (made after : Made) : Type 0 where
  pub why : Refusal
  pub answer : r ≡ reply.Refused why
  pub resource_failure : IsTrue (is_resource_failure r)
  pub past : List Outcome
  pub instead : Outcome
  pub rest : List Outcome
  pub was : made.outcomes ≡ past ++ instead ∷ rest
  pub is : after ≡ record made { outcomes = past ++ Failed why ∷ rest }

-- So the output is another text: the part of the old one that was taken begins it, and the rest of this replaces the
-- rest of that.
pub record IsExchanged (r : Reply) (made after : Made) (text later : List ℕ) : Type 0 where
  pub refused : IsRefusedIn r made after
  pub begins : (front : List ℕ) → text_of made ≡ front ++ text → text_of after ≡ front ++ later

-- the output and the rest of it are unchanged; or one of its files got the refusal
abbrev pub Instead : Reply → (made after : Made) → (text later : List ℕ) → Type 0
Instead r made after text later = ((after ≡ made) × (later ≡ text)) ⊎ IsExchanged r made after text later

-- The job pipe of the worker in domain d: the worker has its read end, it has a writer, and it is not the output pipe.
pub record HasJobQueue (m : State) (d j p : ℕ) : Type 0 where
  pub jobs : descriptor m d 0 ≡ Some (on.ReadEnd j)
  pub writing : IsTrue (pipe_at m j).writing
  pub apart : j ≢ p

-- the job pipe has the job until it is read, and is empty afterwards
abbrev pub HasRest : (m : State) → (j p : ℕ) → (process_slot : ProcessSlot Worker) → (unseen : List Outcome → List ℕ)
    → RunsJob m p process_slot unseen
    → Type 0
HasRest m j p process_slot unseen (inl h) = ⊤
HasRest m j p process_slot unseen (inr h) = (pipe_at m j).queue ≡ []

-- Of the output of the running script this text is expected from pipe p, with the current contents of each file that is
-- still to be read. The job came from pipe j.
pub record IsExpected (m : State) (j p : ℕ) (process_slot : ProcessSlot Worker) (made : Made) (text : List ℕ) :
    Type 0 where
  pub unseen : List Outcome → List ℕ
  pub runs : RunsJob m p process_slot unseen
  pub reads : ReadsItsFile m p process_slot unseen runs
  pub is : text ≡ unseen (outcomes_to_come m p process_slot unseen runs)
  -- the outcomes of its files so far, and the part of its output that was taken
  pub resolved : List Outcome
  pub gave : made.outcomes ≡ resolved ++ outcomes_to_come m p process_slot unseen runs
  pub past : List ℕ
  pub all : (os : List Outcome) → made.before ++ output made.query made.lines (resolved ++ os) ≡ past ++ unseen os
  pub job_queue : HasJobQueue m process_slot.by j p
  pub rest : HasRest m j p process_slot unseen runs

-- all of the text is in the pipe, the write end is closed, and the worker is free for the next job, which has not
-- arrived
pub record IsWritten (m n : State) (j p : ℕ) (next : ProcessSlot Worker) (text : List ℕ) (r : Reply) : Type 0 where
  pub all : text ≡ bytes_of (pipe_at m p).queue
  pub done : r ≡ reply.Done
  pub closes : ClosesWriteEnd m p r n
  pub free : IsFree n next
  pub none : HasNoJob n next.by j

-- the bytes removed from the pipe were the front of the text, and the rest is expected
pub record GaveFront (m n : State) (j p : ℕ) (process_slot : ProcessSlot Worker) (made : Made) (text : List ℕ) :
    Type 0 where
  pub goes : GoesFromFront m p n
  pub rest : List ℕ
  pub splits : text ≡ bytes_of goes.gone ++ rest
  pub expected : IsExpected n j p process_slot made rest

-- A turn of its worker keeps a text expected, the same or its replacement, until all is written, or the pipe has no
-- reader.
pub record Goes (m n : State) (j p : ℕ) (next : ProcessSlot Worker) (made : Made) (text : List ℕ) (r : Reply) :
    Type 0 where
  pub after : Made
  pub later : List ℕ
  pub instead : Instead r made after text later
  pub goes : IsExpected n j p next after later ⊎ IsWritten m n j p next later r ⊎ IsFalse (pipe_at n p).reading

-- If the files do not change, a script outputs one text, with a refusal instead of a file if its worker's call for this
-- file got it.
pub record ScriptsHaveOneOutput : Type 0 where
  -- for a job that waits for a free worker: the output of its lines, after the bytes already in the pipe
  pub begins : (m : State) (j p fd : ℕ) (process_slot : ProcessSlot Worker) (query script : List ℕ) (lines : List Line)
      → IsFree m process_slot
      → HasJob m process_slot.by j p fd query script lines → IsTrue (pipe_at m j).writing
      → IsExpected m j p process_slot
      (record {
        before = bytes_of (pipe_at m p).queue;
        query = query;
        lines = lines;
        outcomes = outcomes_in m process_slot.by lines;
      })
      (bytes_of (pipe_at m p).queue ++ output query lines (outcomes_in m process_slot.by lines))
  -- a turn of the worker keeps it expected, until all is written, or the pipe has no reader, whatever its reply
  pub turns : (m n : State) (j p : ℕ) (process_slot next : ProcessSlot Worker) (yields : Bool) (r : Reply) (made : Made)
      (text : List ℕ)
      → IsOrderly m → ArePlaced m → AreFiles m → IsExpected m j p process_slot made text
      → ProcessSlotTurn copying worker_turns m process_slot yields r n next → Goes m n j p next made text r
  -- calls of others and external events take the front of the text, if they do not change the files and the job pipe
  pub others : (m n : State) (j p : ℕ) (process_slot : ProcessSlot Worker) (e : Event) (r : Reply) (made : Made)
      (text : List ℕ) → IsOrderly m
      → ArePlaced m
      → StepsTo m e r n → IsFalse (is_call_of e process_slot.by) → LeavesFiles m process_slot.by n
      → pipe_at n j ≡ pipe_at m j
      → IsExpected m j p process_slot made text → GaveFront m n j p process_slot made text
