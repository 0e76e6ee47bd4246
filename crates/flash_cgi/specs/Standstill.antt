-- The condition of an idle worker: its current call would block, or it makes no more calls.
use Rattle.std.specs.Prelude.{◌≡◌, ℕ, zero, suc, Bool, true, false, [], Some, IsTrue, IsFalse, ⊤}
use Rattle.iol_core.specs.State.{State, descriptor, pipe_at}
use Rattle.iol_core.specs.Run.{StepsTo}
use Rattle.iol_core.specs.declared.descriptors.Descriptor.TheVariants as on
use Rattle.iol_core.specs.declared.events.Event.TheVariants as event
use Rattle.iol_core.specs.declared.events.Reply.{Reply}
use Rattle.iol_core.specs.declared.events.Reply.TheVariants as reply
use Rattle.iol_core.specs.declared.refusals.Refusal.TheVariants.{WouldBlock}
use Rattle.flash_cgi.specs.WorkerSteps.{call_at}
use Rattle.flash_cgi.specs.declared.phase.Phase.TheVariants as phase
use Rattle.flash_cgi.specs.declared.phase.Standing.{Standing}
use Rattle.flash_cgi.specs.declared.phase.Standing.TheVariants as standing
use Rattle.flash_cgi.specs.declared.worker.Worker.{Worker}

abbrev pub IsBlocked : State → (by : ℕ) → Worker → Type 0
IsBlocked m by w = StepsTo m (event.Call by (call_at w.job w.step)) (reply.Refused WouldBlock) m

-- its job pipe has ended, or its call would block; if it made the call, this is its last reply
abbrev pub IsStuck : State → (by : ℕ) → Worker → (last : Reply) → Standing → Type 0
IsStuck m by w last standing.Over = ⊤
IsStuck m by w last standing.Asks = IsBlocked m by w
IsStuck m by w last standing.Asked = IsBlocked m by w × (last ≡ reply.Refused WouldBlock)

-- the call that it made, if any, was refused in this state, and this is its last reply
abbrev pub IsRefused : State → (by : ℕ) → Worker → (last : Reply) → Standing → Type 0
IsRefused m by w last standing.Asked = IsBlocked m by w × (last ≡ reply.Refused WouldBlock)
IsRefused m by w last s = ⊤

-- the condition after n yields
abbrev pub HasWaited : (n by : ℕ) → Worker → Reply → State → Type 0
HasWaited zero by w last m = ⊤
HasWaited (suc zero) by w last m = IsRefused m by w last w.standing
HasWaited (suc (suc n)) by w last m = IsStuck m by w last w.standing

abbrev pub is_over : Standing → Bool
is_over standing.Over = true
is_over s = false

-- If a worker waits for a job when all are idle, its job pipe is empty and has a writer.
abbrev pub WaitingIsEmpty : Type 0
WaitingIsEmpty = (m : State) (by j : ℕ) (w : Worker) (last : Reply) → HasWaited 2 by w last m
    → w.step.phase ≡ phase.Waiting → IsFalse (is_over w.standing) → descriptor m by 0 ≡ Some (on.ReadEnd j)
    → ((pipe_at m j).queue ≡ []) × IsTrue (pipe_at m j).writing
