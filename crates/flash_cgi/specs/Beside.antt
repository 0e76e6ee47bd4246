-- The effect of others on a worker: calls of other domains, and external events.
use Rattle.std.specs.Prelude.{◌≡◌, ℕ, ◌==◌, Bool, false, List, ◌++◌, Some, IsTrue, IsFalse}
use Rattle.iol_core.specs.Text.{bytes_of}
use Rattle.iol_core.specs.State.{State, content, descriptor, pipe_at, file, may_read, is_live}
use Rattle.iol_core.specs.Run.{StepsTo}
use Rattle.iol_core.specs.Positions.{ArePlaced}
use Rattle.iol_core.specs.declared.descriptors.Descriptor.{Descriptor}
use Rattle.iol_core.specs.declared.descriptors.Descriptor.TheVariants as on
use Rattle.iol_core.specs.declared.descriptors.Mode.{Mode}
use Rattle.iol_core.specs.declared.events.Event.{Event}
use Rattle.iol_core.specs.declared.events.Event.TheVariants as event
use Rattle.iol_core.specs.declared.events.Reply.{Reply}
use Rattle.iol_laws.specs.Caller.{readable_at, TakesFromPipe}
use Rattle.iol_laws.specs.Frame.{changes_files, admits_to}
use Rattle.iol_laws.specs.Order.{IsOrderly}
use Rattle.iol_laws.specs.Others.{GoesFromFront}
use Rattle.iol_proc.specs.declared.process_slot.ProcessSlot.{ProcessSlot}
use Rattle.flash_cgi.specs.Output.{Outcome}
use Rattle.flash_cgi.specs.Outcomes.{AreFiles, outcome_in}
use Rattle.flash_cgi.specs.Turns.{IsFree, RunsJob, outcomes_to_come, ReadsItsFile}
use Rattle.flash_cgi.specs.declared.worker.Worker.{Worker}

-- whether the event is a call of this domain
abbrev pub is_call_of : Event → (d : ℕ) → Bool
is_call_of (event.Call by c) d = by == d
is_call_of e d = false

-- the domain keeps its descriptors, its aggregates, and its access to pools
pub record LeavesWorker (m : State) (d : ℕ) (n : State) : Type 0 where
  pub live : IsTrue (is_live m d) → IsTrue (is_live n d)
  pub fds : (fd : ℕ) (x : Descriptor) → descriptor m d fd ≡ Some x → descriptor n d fd ≡ Some x
  pub bytes : (a : ℕ) (bytes : List ℕ) → readable_at m d a ≡ Some bytes → readable_at n d a ≡ Some bytes
  pub readers : (q : ℕ) → IsTrue (may_read m d q) → IsTrue (may_read n d q)
  pub may : (fd number place : ℕ) (mode : Mode) → descriptor m d fd ≡ Some (on.File number place mode)
      → IsTrue (may_read m d (file m number).pool) → IsTrue (may_read n d (file n number).pool)

-- the outcomes of files for the domain, and the bytes of each file, are unchanged
pub record LeavesFiles (m : State) (d : ℕ) (n : State) : Type 0 where
  pub outcomes : (name : List ℕ) → outcome_in n d name ≡ outcome_in m d name
  pub contents : (f : ℕ) → content n f ≡ content m f

-- the bytes of its job pipe are unchanged until the worker reads them
pub record LeavesJobs (m : State) (process_slot : ProcessSlot Worker) (n : State) : Type 0 where
  pub same : (j : ℕ) → IsFree m process_slot → descriptor m process_slot.by 0 ≡ Some (on.ReadEnd j)
      → pipe_at n j ≡ pipe_at m j

-- Bytes removed from its output pipe were the front of the pending output. If files are unchanged, the outcomes to come
-- are unchanged.
pub record Receives (m n : State) (p : ℕ) (process_slot : ProcessSlot Worker) (unseen : List Outcome → List ℕ)
    (was : RunsJob m p process_slot unseen) (received : List ℕ) : Type 0 where
  pub after : List Outcome → List ℕ
  pub splits : (os : List Outcome) → unseen os ≡ received ++ after os
  pub runs : RunsJob n p process_slot after
  pub outcomes : LeavesFiles m process_slot.by n
      → outcomes_to_come n p process_slot after runs ≡ outcomes_to_come m p process_slot unseen was
  pub reads : LeavesFiles m process_slot.by n → ReadsItsFile m p process_slot unseen was
      → ReadsItsFile n p process_slot after runs

-- Others leave a worker with its job unchanged, except for the front of its output pipe.
pub record OthersReceive : Type 0 where
  pub leave : (m n : State) (d : ℕ) (e : Event) (r : Reply) → ArePlaced m → StepsTo m e r n → IsFalse (is_call_of e d)
      → LeavesWorker m d n
  -- a step that may not change a file, and that admits no domain to a pool, leaves the files unchanged
  pub files : (m n : State) (d : ℕ) (e : Event) (r : Reply) → AreFiles m → StepsTo m e r n → IsFalse (changes_files m e)
      → ((q : ℕ) → IsFalse (admits_to e q)) → LeavesFiles m d n
  -- bytes of a pipe to which a worker writes are removed only from its front
  pub front : (m n : State) (d p fd : ℕ) (e : Event) (r : Reply) → IsOrderly m → StepsTo m e r n
      → IsFalse (is_call_of e d)
      → descriptor m d fd ≡ Some (on.WriteEnd p) → GoesFromFront m p n
  pub gone : (m n : State) (p : ℕ) (process_slot : ProcessSlot Worker) (unseen : List Outcome → List ℕ)
      → LeavesWorker m process_slot.by n
      → LeavesJobs m process_slot n → (was : RunsJob m p process_slot unseen) → (goes : GoesFromFront m p n)
      → Receives m n p process_slot unseen was (bytes_of goes.gone)
  -- a read of the pipe returns the bytes removed
  pub received : (m n : State) (p by count a : ℕ) (bytes : List ℕ) → TakesFromPipe m by p count a n
      → readable_at n by a ≡ Some bytes
      → (goes : GoesFromFront m p n) → bytes_of goes.gone ≡ bytes
