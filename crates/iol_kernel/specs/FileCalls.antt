-- Calls on files: their effect with an honest store under the files, and over any store.
use Rattle.std.specs.Prelude.{◌≡◌, ℕ, List, [], Result, Err, OnErr, OnOk, ◌≢◌}
use Rattle.iol_core.specs.State.{State}
use Rattle.iol_core.specs.Meaning.{Meaning, Step}
use Rattle.iol_core.specs.Positions.{ArePlaced}
use Rattle.iol_core.specs.declared.refusals.Refusal.{Refusal}
use Rattle.iol_core.specs.declared.refusals.Refusal.TheVariants.{NoRoom}
use Rattle.iol_back.specs.Disk.{Disk}
use Rattle.iol_hold.specs.Moves.{Stays}
use Rattle.iol_cache.specs.Evictions.{Holding}
use Rattle.iol_cache.specs.ReadResults.{IsBacked}
use Rattle.iol_kernel.specs.KernelState.{KernelState, machine_of, read_of, IsSound}
use Rattle.iol_kernel.specs.Readings.{Reading, KeepsPools}

-- a kernel's pages, and its cache of files over them
abbrev pub holding_of : KernelState → Holding
holding_of h = record { store = h.store; cache = h.cache }

-- the store under the files is honest, and has the same bytes as the clean extents in memory
abbrev pub IsBackedBy : Disk → KernelState → Type 0
IsBackedBy disk h = IsBacked disk (holding_of h)

-- the machine state of the kernel, with these bytes in the slots of its files
unfoldable pub with_slots : (slots : List (List ℕ)) → KernelState → State
with_slots slots h = record (machine_of [] h) { slots = slots }

-- Except for the bytes of files, the call is the machine's step: there are contents of files with which it is. This
-- holds over any store, whatever it answers.
pub record StepsBeside {A : Type 0} (m : State → Meaning A) (old : KernelState) (r : Result A Refusal)
    (new : KernelState) : Type 0 where
  pub before : List (List ℕ)
  pub after : List (List ℕ)
  pub step : Step (m (with_slots before old)) (with_slots before old) r (with_slots after new)

-- A call that may use the store under the files. With an honest store it is the machine's step, including the bytes of
-- files, if positions are within files; they are in every state reached from the start.
pub record Serves {A : Type 0} (m : State → Meaning A) (disk : Disk) (old : KernelState) (r : Result A Refusal)
    (after : Disk) (new : KernelState) : Type 0 where
  pub step : IsBackedBy disk old → ArePlaced (machine_of disk.slots old)
      → Step (m (machine_of disk.slots old)) (machine_of disk.slots old) r (machine_of after.slots new)
  pub backed : IsBackedBy disk old → IsBackedBy after new
  pub beside : StepsBeside m old r new
  pub honest : after.honest ≡ disk.honest
  pub sums : new.sums ≡ old.sums
  pub sound : IsSound new
  pub stays : Stays old.store new.store

-- A call that at most asks the store under the files for a length. Pages and cached extents are unchanged, every byte
-- keeps its place, and a refused call changes nothing.
pub record LooksUp {A : Type 0} (m : State → Meaning A) (disk : Disk) (old : KernelState) (r : Result A Refusal)
    (new : KernelState) : Type 0 where
  pub serves : Serves m disk old r disk new
  pub places : OnOk r ((f : Reading) → KeepsPools f → read_of f new ≡ (m (read_of f old)).after)
  pub store : new.store ≡ old.store
  pub cache : new.cache ≡ old.cache
  pub roomy : (p : ℕ) → r ≢ Err (NoRoom p)
  pub refused : OnErr r (new ≡ old)
