-- The behavior of a worker after the end of its job pipe.
use Rattle.std.specs.Prelude.{◌≡◌, ℕ, List, [], Option, Some, IsTrue, IsFalse}
use Rattle.iol_core.specs.State.{State, descriptor, pipe_at}
use Rattle.iol_core.specs.Run.{StepsTo}
use Rattle.iol_core.specs.declared.descriptors.Descriptor.TheVariants as on
use Rattle.iol_core.specs.declared.events.Call.TheVariants as call
use Rattle.iol_core.specs.declared.events.Event.TheVariants as event
use Rattle.iol_core.specs.declared.events.Reply.{Reply}
use Rattle.iol_core.specs.declared.events.Reply.TheVariants as reply
use Rattle.iol_laws.specs.Caller.{readable_at}
use Rattle.iol_laws.specs.Order.{IsOrderly}
use Rattle.iol_proc.specs.declared.process.Turn.{Turn}
use Rattle.iol_proc.specs.declared.process.Turn.TheVariants as turn
use Rattle.flash_cgi.specs.WorkerSteps.{bytes_at}
use Rattle.flash_cgi.specs.Works.{works}
use Rattle.flash_cgi.specs.Standstill.{is_over}
use Rattle.flash_cgi.specs.declared.phase.Phase.TheVariants as phase
use Rattle.flash_cgi.specs.declared.phase.Standing.TheVariants as standing
use Rattle.flash_cgi.specs.declared.worker.Worker.{Worker}

-- it waited for a job, and read no bytes
pub record ReadNothing (w : Worker) (last : Reply) (readable : ℕ → Option (List ℕ)) : Type 0 where
  pub agg : ℕ
  pub waited : w.step.phase ≡ phase.Waiting
  pub asked : w.standing ≡ standing.Asked
  pub read : last ≡ reply.Agg agg
  pub nothing : bytes_at readable agg ≡ []

pub record WorkersStop : Type 0 where
  -- a read of no bytes means that the job pipe is empty and has no writer any more
  pub reports : (m n : State) (d j a : ℕ) → IsOrderly m → descriptor m d 0 ≡ Some (on.ReadEnd j)
      → StepsTo m (event.Call d (call.IolRead 0 65536)) (reply.Agg a) n → bytes_at (readable_at n d) a ≡ []
      → ((pipe_at m j).queue ≡ []) × IsFalse (pipe_at m j).writing
  -- a worker with such a reply drops the aggregate, and is over
  pub ends : (w v : Worker) (last : Reply) (readable : ℕ → Option (List ℕ)) (t : Turn)
      → (is : ReadNothing w last readable)
      → works w last readable t v → (t ≡ turn.Make (call.AggDrop is.agg)) × (v.standing ≡ standing.Over)
  -- no other worker becomes over
  pub only : (w v : Worker) (last : Reply) (readable : ℕ → Option (List ℕ)) (t : Turn) → IsFalse (is_over w.standing)
      → works w last readable t v → IsTrue (is_over v.standing) → ReadNothing w last readable
  -- from then on it yields, and does not change
  pub stops : (w v : Worker) (last : Reply) (readable : ℕ → Option (List ℕ)) (t : Turn) → IsTrue (is_over w.standing)
      → works w last readable t v → (t ≡ turn.Yield) × (v ≡ w)
