-- A worker that has a job when all are idle: its output pipe is full.
use Rattle.std.specs.Prelude.{ℕ, ◌≤◌, List, length}
use Rattle.iol_core.specs.Access.{HasAccess}
use Rattle.iol_core.specs.State.{State, pipe_at}
use Rattle.iol_core.specs.declared.limits.TheConstants.{MAX_QUEUE_BYTES}
use Rattle.iol_laws.specs.Order.{IsOrderly}
use Rattle.iol_proc.specs.declared.process_slot.ProcessSlot.{ProcessSlot}
use Rattle.flash_cgi.specs.Output.{Outcome}
use Rattle.flash_cgi.specs.Turns.{RunsJob}
use Rattle.flash_cgi.specs.Standstill.{HasWaited}
use Rattle.flash_cgi.specs.declared.worker.Worker.{Worker}

-- Nothing else can block it: an unread job can be read, and of its calls only a write to the pipe may block.
abbrev pub RunningIsFull : Type 0
RunningIsFull = (m : State) (p : ℕ) (process_slot : ProcessSlot Worker) (unseen : List Outcome → List ℕ) → IsOrderly m
    → HasAccess m
    → RunsJob m p process_slot unseen → HasWaited 2 process_slot.by process_slot.process process_slot.last m
    → MAX_QUEUE_BYTES ≤ length (pipe_at m p).queue
