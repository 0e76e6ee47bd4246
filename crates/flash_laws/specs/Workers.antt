-- The requirements of the law on workers that run scripts: a script outputs one text, which the reader of its pipe may
-- read. If a call for a file is refused with TooMany, NoRoom, Fault or Memory, this text is replaced by another with
-- the same beginning.
--
-- The worker itself defines when it is free, and which text is expected from it.
pub mod WorkerSet
pub mod WorkerSets
pub mod DeliversText
pub mod OwnWorkers
use Rattle.std.specs.Prelude.{◌≡◌, ◌⊎◌, ◌≤◌, ℕ, Bool, List, ◌++◌, length, Some, IsTrue, IsFalse}
use Rattle.iol_core.specs.Access.{HasAccess}
use Rattle.iol_core.specs.Text.{bytes_of}
use Rattle.iol_core.specs.State.{State, descriptor, pipe_at}
use Rattle.iol_core.specs.declared.descriptors.Descriptor.TheVariants as on
use Rattle.iol_core.specs.Positions.{ArePlaced}
use Rattle.iol_core.specs.Prelude.{default_pool}
use Rattle.iol_core.specs.Run.{StepsTo}
use Rattle.iol_core.specs.declared.limits.TheConstants.{MAX_QUEUE_BYTES}
use Rattle.iol_core.specs.declared.events.Event.{Event}
use Rattle.iol_core.specs.declared.events.Reply.{Reply}
use Rattle.iol_core.specs.declared.events.Reply.TheVariants as reply
use Rattle.iol_laws.specs.Caller.{ClosesWriteEnd}
use Rattle.iol_laws.specs.Order.{IsOrderly}
use Rattle.iol_laws.specs.Others.{GoesFromFront}
use Rattle.iol_laws.specs.Sources.{lie_in}
use Rattle.iol_proc.specs.Quiescence.{Claim}
use Rattle.iol_proc.specs.Turns.{TransitionRelation, ProcessSlotTurn}
use Rattle.iol_proc.specs.World.{copying}
use Rattle.iol_proc.specs.declared.process_slot.ProcessSlot.{ProcessSlot}
use Rattle.flash_cgi.specs.Beside.{is_call_of, LeavesFiles}
use Rattle.flash_cgi.specs.Expected.{IsExpected, Instead, Made}
use Rattle.flash_cgi.specs.Free.{HasNoJob}
use Rattle.flash_cgi.specs.Frame.{LeavesAllBut}
use Rattle.flash_cgi.specs.Outcomes.{AreFiles, outcomes_in}
use Rattle.flash_cgi.specs.Output.{output}
use Rattle.flash_cgi.specs.OutputPools.{HoldFiles, IsShown}
use Rattle.flash_cgi.specs.JobStart.{HasJob}
use Rattle.flash_cgi.specs.Turns.{IsFree}
use Rattle.flash_cgi.specs.declared.line.Line.{Line}
use Rattle.flash_cgi.specs.declared.worker.Worker.{Worker}

-- Free m j process slot: the worker in this process slot is free, and reads its jobs from pipe j, which is empty.
-- Expected m j p process slot made text: of the output of the script, this text is expected from pipe p, by the worker
-- with job pipe j.
module _ {W : Type 0} (works : TransitionRelation W) (quiescent : Claim W) (pools : ℕ → Bool) (Free : State → (j : ℕ)
    → ProcessSlot W → Type 0)
    (Expected : State → (j p : ℕ) → ProcessSlot W → Made → (text : List ℕ) → Type 0) where
  -- all of it is in the pipe, the write end is closed, and the worker is free again
  pub record Wrote (m n : State) (j p : ℕ) (next : ProcessSlot W) (text : List ℕ) (r : Reply) : Type 0 where
    pub all : text ≡ bytes_of (pipe_at m p).queue
    pub done : r ≡ reply.Done
    pub closes : ClosesWriteEnd m p r n
    pub free : Free n j next
    pub lies : IsTrue (lie_in pools (pipe_at n p).queue)

  -- the bytes removed from the pipe were the front of the text, and the rest is expected
  pub record Gave (m n : State) (j p : ℕ) (process_slot : ProcessSlot W) (made : Made) (text : List ℕ) : Type 0 where
    pub goes : GoesFromFront m p n
    pub rest : List ℕ
    pub splits : text ≡ bytes_of goes.gone ++ rest
    pub expected : Expected n j p process_slot made rest

  -- after a turn a text is expected, the same or its replacement, until all of it is written, or the pipe has no reader
  pub record TakesTurn (m n : State) (j p : ℕ) (next : ProcessSlot W) (made : Made) (text : List ℕ) (r : Reply) :
      Type 0 where
    pub after : Made
    pub later : List ℕ
    pub instead : Instead r made after text later
    pub goes : Expected n j p next after later ⊎ Wrote m n j p next later r ⊎ IsFalse (pipe_at n p).reading

  pub record WorkersRun : Type 0 where
    -- the job pipe of a free worker is empty, and a worker with an expected text has the write end of the pipe
    pub none : (m : State) (j : ℕ) (process_slot : ProcessSlot W) → Free m j process_slot → HasNoJob m process_slot.by j
    pub writes : (m : State) (j p : ℕ) (process_slot : ProcessSlot W) (made : Made) (text : List ℕ)
        → Expected m j p process_slot made text
        → (fd : ℕ) × (descriptor m process_slot.by fd ≡ Some (on.WriteEnd p))
    -- and it has the read end of its job pipe
    pub reads : (m : State) (j p : ℕ) (process_slot : ProcessSlot W) (made : Made) (text : List ℕ)
        → Expected m j p process_slot made text
        → descriptor m process_slot.by 0 ≡ Some (on.ReadEnd j)
    -- a free worker changes nothing, and stays free; the same for events of others that do not change its job pipe
    pub waits : (m n : State) (j : ℕ) (process_slot next : ProcessSlot W) (yields : Bool) (r : Reply) → IsOrderly m
        → Free m j process_slot
        → ProcessSlotTurn copying works m process_slot yields r n next → (n ≡ m) × Free n j next
    pub free_others : (m n : State) (j : ℕ) (process_slot : ProcessSlot W) (e : Event) (r : Reply) → ArePlaced m
        → StepsTo m e r n
        → IsFalse (is_call_of e process_slot.by) → pipe_at n j ≡ pipe_at m j → Free m j process_slot
        → Free n j process_slot
    -- with a job in its job pipe, all of that job's output is expected, after the bytes already in the output pipe
    pub begins : (m n : State) (j p fd : ℕ) (process_slot : ProcessSlot W) (query script : List ℕ) (lines : List Line)
        (e : Event) (r : Reply)
        → ArePlaced m → Free m j process_slot → StepsTo m e r n → IsFalse (is_call_of e process_slot.by)
        → HasJob n process_slot.by j p fd query script lines → IsTrue (pipe_at n j).writing
        → IsTrue (lie_in pools (pipe_at n p).queue)
        → Expected n j p process_slot
        (record {
          before = bytes_of (pipe_at n p).queue;
          query = query;
          lines = lines;
          outcomes = outcomes_in n process_slot.by lines;
        })
        (bytes_of (pipe_at n p).queue ++ output query lines (outcomes_in n process_slot.by lines))
    -- its turn keeps a text expected, whatever its reply
    pub turns : (m n : State) (j p : ℕ) (process_slot next : ProcessSlot W) (yields : Bool) (r : Reply) (made : Made)
        (text : List ℕ) → IsOrderly m
        → ArePlaced m → AreFiles m → HoldFiles pools m process_slot.by → Expected m j p process_slot made text
        → ProcessSlotTurn copying works m process_slot yields r n next → TakesTurn m n j p next made text r
    -- events of others take its front, if they do not change the files and the job pipe
    pub others : (m n : State) (j p : ℕ) (process_slot : ProcessSlot W) (e : Event) (r : Reply) (made : Made)
        (text : List ℕ) → IsOrderly m
        → ArePlaced m → StepsTo m e r n → IsFalse (is_call_of e process_slot.by) → LeavesFiles m process_slot.by n
        → pipe_at n j ≡ pipe_at m j
        → Expected m j p process_slot made text → Gave m n j p process_slot made text
    -- its turn changes only its own domain, and one pipe
    pub confined : (m n : State) (j p : ℕ) (process_slot next : ProcessSlot W) (yields : Bool) (r : Reply) (made : Made)
        (text : List ℕ)
        → Expected m j p process_slot made text
        → ProcessSlotTurn copying works m process_slot yields r n next → LeavesAllBut m process_slot.by j n
        ⊎ LeavesAllBut m process_slot.by p n
    -- the bytes in the pipe are in these pools, and when all are idle it is full
    pub shown : (m : State) (j p : ℕ) (process_slot : ProcessSlot W) (made : Made) (text : List ℕ)
        → Expected m j p process_slot made text
        → IsTrue (lie_in pools (pipe_at m p).queue)
    pub full : (m : State) (j p : ℕ) (process_slot : ProcessSlot W) (made : Made) (text : List ℕ) → IsOrderly m
        → HasAccess m → Expected m j p process_slot made text
        → quiescent 2 process_slot.by process_slot.process process_slot.last m
        → MAX_QUEUE_BYTES ≤ length (pipe_at m p).queue

-- ---- the definitions for the worker that runs scripts

pub record IsFreeFor (pools : ℕ → Bool) (m : State) (j : ℕ) (process_slot : ProcessSlot Worker) : Type 0 where
  pub free : IsFree m process_slot
  pub none : HasNoJob m process_slot.by j
  pub default : IsTrue (pools (default_pool m process_slot.by))

pub record IsExpectedOf (pools : ℕ → Bool) (m : State) (j p : ℕ) (process_slot : ProcessSlot Worker) (made : Made)
    (text : List ℕ) : Type 0 where
  pub expected : IsExpected m j p process_slot made text
  pub shown : IsShown pools m p process_slot
