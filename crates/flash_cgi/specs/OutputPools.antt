-- The pools of a worker's output: those of the files that it reads, and its default pool.
--
-- A domain that may read these is never denied the output.
use Rattle.std.specs.Prelude.{◌≡◌, ℕ, Bool, List, Option, Some, None, IsTrue, IsFalse, ⊤}
use Rattle.iol_core.specs.State.{State, descriptor, file, may_read, pipe_at, text}
use Rattle.iol_core.specs.Calls.Files.{file_called}
use Rattle.iol_core.specs.Positions.{ArePlaced}
use Rattle.iol_core.specs.Prelude.{default_pool}
use Rattle.iol_core.specs.Run.{StepsTo}
use Rattle.iol_core.specs.declared.descriptors.Descriptor.TheVariants as on
use Rattle.iol_core.specs.declared.descriptors.Mode.{Mode}
use Rattle.iol_core.specs.declared.events.Event.{Event}
use Rattle.iol_core.specs.declared.events.Reply.{Reply}
use Rattle.iol_laws.specs.Order.{IsOrderly}
use Rattle.iol_laws.specs.Sources.{lie_in}
use Rattle.iol_proc.specs.Turns.{ProcessSlotTurn}
use Rattle.iol_proc.specs.World.{copying}
use Rattle.iol_proc.specs.declared.process_slot.ProcessSlot.{ProcessSlot}
use Rattle.flash_cgi.specs.Beside.{is_call_of}
use Rattle.flash_cgi.specs.Collecting.{Collected}
use Rattle.flash_cgi.specs.Output.{Outcome}
use Rattle.flash_cgi.specs.Turns.{IsFree, RunsJob, step_of}
use Rattle.flash_cgi.specs.Works.{worker_turns}
use Rattle.flash_cgi.specs.declared.phase.Phase.{Phase}
use Rattle.flash_cgi.specs.declared.phase.Phase.TheVariants as phase
use Rattle.flash_cgi.specs.declared.worker.Worker.{Worker}

-- the pools include those of all files that the domain may read, and the one that a pause sets
pub record HoldFiles (pools : ℕ → Bool) (m : State) (d : ℕ) : Type 0 where
  pub files : (name : List ℕ) (f : ℕ) → file_called m name ≡ Some f → IsTrue (may_read m d (file m f).pool)
      → IsTrue (pools (file m f).pool)
  pub pauses : IsTrue (pools 3)

abbrev pub OneLies : (pools : ℕ → Bool) → State → (d : ℕ) → Option ℕ → Type 0
OneLies pools m d None = ⊤
OneLies pools m d (Some a) = IsTrue (lie_in pools (text m d a))

-- its buffered output is in these pools
abbrev pub PieceLies : (pools : ℕ → Bool) → State → (d : ℕ) → Collected → Type 0
PieceLies pools m d x = OneLies pools m d x.held × OneLies pools m d x.next

-- the same for the file that it reads, and the bytes that it writes
abbrev pub PhaseLies : (pools : ℕ → Bool) → State → (d : ℕ) → Phase → Type 0
PhaseLies pools m d (phase.Reading fd u) =
    (f at : ℕ) (mode : Mode) → descriptor m d fd ≡ Some (on.File f at mode) → IsTrue (pools (file m f).pool)
PhaseLies pools m d (phase.ClosingFile fd a) = IsTrue (lie_in pools (text m d a))
PhaseLies pools m d (phase.JoiningFile held a from len) =
    IsTrue (lie_in pools (text m d held)) × IsTrue (lie_in pools (text m d a))
PhaseLies pools m d (phase.CuttingPart held a from) = IsTrue (lie_in pools (text m d held))
    × IsTrue (lie_in pools (text m d a))
PhaseLies pools m d (phase.ReplacingPart a part at) = IsTrue (lie_in pools (text m d a))
    × IsTrue (lie_in pools (text m d part))
PhaseLies pools m d (phase.DroppingText a part made) = IsTrue (lie_in pools (text m d made))
PhaseLies pools m d (phase.DroppingPart part made) = IsTrue (lie_in pools (text m d made))
PhaseLies pools m d (phase.Writing a) = IsTrue (lie_in pools (text m d a))
PhaseLies pools m d (phase.CuttingRest a from to) = IsTrue (lie_in pools (text m d a))
PhaseLies pools m d (phase.DroppingTaken a rest) = IsTrue (lie_in pools (text m d rest))
PhaseLies pools m d x = ⊤

-- for a worker with a job
abbrev pub LiesIn : (pools : ℕ → Bool) → State → (d : ℕ) → Collected → Phase → Type 0
LiesIn pools m d x phase.Waiting = ⊤
LiesIn pools m d x y = PieceLies pools m d x × PhaseLies pools m d y

-- the bytes that it wrote to pipe p, and those that it will make, are in these pools
pub record IsShown (pools : ℕ → Bool) (m : State) (p : ℕ) (process_slot : ProcessSlot Worker) : Type 0 where
  pub default : IsTrue (pools (default_pool m process_slot.by))
  pub output : IsTrue (lie_in pools (pipe_at m p).queue)
  pub lies : LiesIn pools m process_slot.by (step_of m process_slot).piece (step_of m process_slot).phase

pub record OutputsAreShown : Type 0 where
  -- for a worker that is free, and a pipe to which no other bytes were written
  pub free : (pools : ℕ → Bool) (m : State) (p : ℕ) (process_slot : ProcessSlot Worker) → IsFree m process_slot
      → IsTrue (pools (default_pool m process_slot.by)) → IsTrue (lie_in pools (pipe_at m p).queue)
      → IsShown pools m p process_slot
  -- its turns and events of others preserve this
  pub turns : (pools : ℕ → Bool) (m n : State) (p : ℕ) (process_slot next : ProcessSlot Worker) (yields : Bool)
      (r : Reply)
      (unseen : List Outcome → List ℕ) → IsOrderly m → HoldFiles pools m process_slot.by
      → RunsJob m p process_slot unseen
      → IsShown pools m p process_slot → ProcessSlotTurn copying worker_turns m process_slot yields r n next
      → IsShown pools n p next
  pub others : (pools : ℕ → Bool) (m n : State) (p : ℕ) (process_slot : ProcessSlot Worker) (e : Event) (r : Reply)
      (unseen : List Outcome → List ℕ) → IsOrderly m → ArePlaced m → RunsJob m p process_slot unseen
      → IsShown pools m p process_slot
      → StepsTo m e r n → IsFalse (is_call_of e process_slot.by) → IsShown pools n p process_slot
