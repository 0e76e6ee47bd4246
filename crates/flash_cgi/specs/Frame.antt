-- The parts of the state that a worker's turn leaves unchanged: all except its own domain and one pipe.
use Rattle.std.specs.Prelude.{◌≡◌, ◌≢◌, ℕ, Bool, List, Some, IsTrue}
use Rattle.iol_core.specs.State.{State, domain, descriptor, conn_at, pipe_at, pool, is_live, is_pool}
use Rattle.iol_core.specs.declared.descriptors.Descriptor.TheVariants as on
use Rattle.iol_core.specs.declared.events.Reply.{Reply}
use Rattle.iol_laws.specs.Caller.{readable_at}
use Rattle.iol_proc.specs.Turns.{ProcessSlotTurn}
use Rattle.iol_proc.specs.World.{copying}
use Rattle.iol_proc.specs.declared.process_slot.ProcessSlot.{ProcessSlot}
use Rattle.flash_cgi.specs.Output.{Outcome}
use Rattle.flash_cgi.specs.Turns.{IsFree, HasRead, IsRunning}
use Rattle.flash_cgi.specs.Works.{worker_turns}
use Rattle.flash_cgi.specs.declared.worker.Worker.{Worker}

-- all except domain d and this pipe is unchanged
pub record LeavesAllBut (m : State) (d p : ℕ) (n : State) : Type 0 where
  pub conns : (c : ℕ) → conn_at n c ≡ conn_at m c
  pub pipes : (q : ℕ) → q ≢ p → pipe_at n q ≡ pipe_at m q
  pub files : (n.files ≡ m.files) × (n.slots ≡ m.slots)
  pub pools : (q : ℕ) → IsTrue (is_pool m q) → pool n q ≡ pool m q
  pub lives : (e : ℕ) → IsTrue (is_live m e) → IsTrue (is_live n e)
  pub defaults : (e : ℕ) → e ≢ d → IsTrue (is_live m e) → (domain n e).default ≡ (domain m e).default
  pub fds : (e fd : ℕ) → e ≢ d → descriptor n e fd ≡ descriptor m e fd
  pub aggs : (e a : ℕ) → e ≢ d → readable_at n e a ≡ readable_at m e a
  -- the job pipe of the domain is unchanged, too
  pub job_queue : (j : ℕ) → j ≢ p → descriptor m d 0 ≡ Some (on.ReadEnd j) → descriptor n d 0 ≡ Some (on.ReadEnd j)

pub record WorkersAreConfined : Type 0 where
  -- a free worker changes only its job pipe, and will read it again
  pub free : (m n : State) (j : ℕ) (process_slot next : ProcessSlot Worker) (yields : Bool) (r : Reply)
      → IsTrue (is_live m process_slot.by)
      → IsFree m process_slot → descriptor m process_slot.by 0 ≡ Some (on.ReadEnd j)
      → ProcessSlotTurn copying worker_turns m process_slot yields r n next
      → LeavesAllBut m process_slot.by j n × (descriptor n process_slot.by 0 ≡ Some (on.ReadEnd j))
  -- a worker that has read its job, or runs it, changes only its output pipe
  pub begins : (m n : State) (p : ℕ) (process_slot next : ProcessSlot Worker) (yields : Bool) (r : Reply)
      (unseen : List Outcome → List ℕ)
      → HasRead m p process_slot unseen → ProcessSlotTurn copying worker_turns m process_slot yields r n next
      → LeavesAllBut m process_slot.by p n
  pub runs : (m n : State) (p : ℕ) (process_slot next : ProcessSlot Worker) (yields : Bool) (r : Reply)
      (unseen : List Outcome → List ℕ)
      → IsRunning m p process_slot unseen → ProcessSlotTurn copying worker_turns m process_slot yields r n next
      → LeavesAllBut m process_slot.by p n
