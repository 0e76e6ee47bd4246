-- A worker without a job: it stays free until a job arrives, and is free again after a text that is no job.
use Rattle.std.specs.Prelude.{◌≡◌, ◌⊎◌, ℕ, Bool, List, [], ◌∷◌, Some, None, IsTrue}
use Rattle.iol_core.specs.State.{State, descriptor, pipe_at, is_live}
use Rattle.iol_core.specs.declared.descriptors.Descriptor.TheVariants as on
use Rattle.iol_core.specs.declared.events.Reply.{Reply}
use Rattle.iol_core.specs.declared.events.Reply.TheVariants as reply
use Rattle.iol_laws.specs.Caller.{readable_at}
use Rattle.iol_laws.specs.Order.{IsOrderly}
use Rattle.iol_proc.specs.Turns.{ProcessSlotTurn}
use Rattle.iol_proc.specs.World.{copying, process_slot_of}
use Rattle.iol_proc.specs.declared.process_slot.ProcessSlot.{ProcessSlot}
use Rattle.flash_cgi.specs.Job.{job_of}
use Rattle.flash_cgi.specs.Turns.{IsFree}
use Rattle.flash_cgi.specs.Works.{IsNew, worker_turns}
use Rattle.flash_cgi.specs.declared.phase.Phase.TheVariants as phase
use Rattle.flash_cgi.specs.declared.phase.Standing.TheVariants as standing
use Rattle.flash_cgi.specs.declared.worker.Worker.{Worker}

-- its job pipe is empty and has a writer
pub record HasNoJob (m : State) (d j : ℕ) : Type 0 where
  pub live : IsTrue (is_live m d)
  pub jobs : descriptor m d 0 ≡ Some (on.ReadEnd j)
  pub empty : (pipe_at m j).queue ≡ []
  pub writing : IsTrue (pipe_at m j).writing

pub record WorkersStayFree : Type 0 where
  -- a new one is free
  pub new : (m : State) (d : ℕ) (w : Worker) → IsNew w → IsFree m (process_slot_of (d, w))
  -- its turn changes nothing while there is no job, and it stays free
  pub turns : (m n : State) (j : ℕ) (process_slot next : ProcessSlot Worker) (yields : Bool) (r : Reply) → IsOrderly m
      → HasNoJob m process_slot.by j
      → IsFree m process_slot → ProcessSlotTurn copying worker_turns m process_slot yields r n next
      → (n ≡ m) × IsFree n next
  -- the same for events of others
  pub others : (m n : State) (process_slot : ProcessSlot Worker) → IsFree m process_slot → IsFree n process_slot
  -- a worker that has read a text that is no job is free after its turn, or ran out of memory and will be called again
  -- with the same reply
  pub skips : (m n : State) (agg b : ℕ) (bs : List ℕ) (process_slot next : ProcessSlot Worker) (yields : Bool)
      (r : Reply)
      → IsTrue (is_live m process_slot.by)
      → process_slot.process.step.phase ≡ phase.Waiting → process_slot.process.standing ≡ standing.Asked
      → process_slot.last ≡ reply.Agg agg
      → readable_at m process_slot.by agg ≡ Some (b ∷ bs) → job_of (b ∷ bs) ≡ None
      → ProcessSlotTurn copying worker_turns m process_slot yields r n next
      → IsFree n next ⊎ (next ≡ process_slot)
