-- Writes of a domain's bytes by copying: their target, and the pool of the new bytes.
use Rattle.std.specs.Prelude.{◌≡◌, ◌⊎◌, ℕ, Bool, List, [], length, Some, Result, Err, IfOk, IfErr, OnErr}
use Rattle.std.specs.Prelude.{OnOk, IsTrue, IsFalse, ◌≢◌}
use Rattle.iol_core.specs.State as machine
use Rattle.iol_core.specs.State.{State, descriptor}
use Rattle.iol_core.specs.Text.{Text}
use Rattle.iol_core.specs.Meaning.{Meaning, WantOfRoom}
use Rattle.iol_core.specs.Calls.Writes as writing
use Rattle.iol_core.specs.Prelude.{Never}
use Rattle.iol_core.specs.declared.descriptors.Descriptor.{Descriptor}
use Rattle.iol_core.specs.declared.descriptors.Descriptor.TheVariants as on
use Rattle.iol_core.specs.declared.refusals.Refusal.{Refusal}
use Rattle.iol_core.specs.declared.refusals.Refusal.TheVariants.{NoRoom, Memory}
use Rattle.iol_back.specs.Disk.{Disk}
use Rattle.iol_hold.specs.Moves.{Stays}
use Rattle.iol_hold.specs.Room.{has_room}
use Rattle.iol_sock.specs.Refusals.{IsPassed, IsRefused}
use Rattle.iol_kernel.specs.FileCalls.{Serves}
use Rattle.iol_kernel.specs.Calls.{MakesBytes, Steps}
use Rattle.iol_kernel.specs.KernelState.{KernelState, IsSound, machine_of, read_of}
use Rattle.iol_kernel.specs.QueueSlices.{QueuesFew}
use Rattle.iol_kernel.specs.Room.{Places, can_fit}
use Rattle.iol_kernel.specs.Readings.{Reading}
use Rattle.iol_kernel.specs.FileWrites.{LaysOn, PutsOn}
use Rattle.iol_kernel.specs.declared.open_file.OpenFile.{OpenFile}

-- the state with this text written to a descriptor
abbrev pub written_to : (d fd : ℕ) → State → Text → State
written_to d fd s t = writing.written s d fd (descriptor s d fd) t

-- the pool of bytes written to a descriptor
abbrev pub lands_in : (d fd : ℕ) → State → ℕ
lands_in d fd s = writing.pool_for s d (descriptor s d fd)

-- A write of these bytes passes its tests, and they are to be placed in this pool, which is open.
pub record PassesTests (d fd : ℕ) (bytes : List ℕ) (p : ℕ) (h : KernelState) : Type 0 where
  pub passed : (f : Reading) → IsPassed (writing.write (read_of f h) d fd bytes).refusals
  pub pool : (f : Reading) → p ≡ lands_in d fd (read_of f h)
  pub opened : IsFalse (machine.pool (machine_of [] h) p).closed

-- A write of these bytes is refused by the first test that holds, and the refusal is not NoRoom.
pub record FailsTests (d fd : ℕ) (bytes : List ℕ) (x : Refusal) (h : KernelState) : Type 0 where
  pub refused : (f : Reading) → IsRefused (writing.write (read_of f h) d fd bytes).refusals Never x
  pub roomy : (p : ℕ) → x ≢ NoRoom p

-- The result of testing a write of these bytes: the pool to place them in, or the refusal.
pub record TestsWrite (d fd : ℕ) (bytes : List ℕ) (h : KernelState) (r : Result ℕ Refusal) : Type 0 where
  pub passes : IfOk r (λ p. PassesTests d fd bytes p h)
  pub refused : IfErr r (λ x. FailsTests d fd bytes x h)

-- These bytes may be written to a descriptor that is open on `target`, and are to be placed in this pool.
pub record MayPut (d fd : ℕ) (target : Descriptor) (p : ℕ) (bytes : List ℕ) (h : KernelState) : Type 0 where
  pub sound : IsSound h
  pub to : (f : Reading) → descriptor (read_of f h) d fd ≡ Some target
  pub passes : PassesTests d fd bytes p h

-- These bytes may be written over those of a file that was found open, and are to be placed in this pool.
abbrev pub MayPutInFile : (d fd : ℕ) → OpenFile → (p : ℕ) → List ℕ → KernelState → Type 0
MayPutInFile d fd x p bytes h = MayPut d fd (on.File x.file x.at x.mode) p bytes h

-- A call that places new bytes if there is room for them: the machine's step. They are placed in a pool and stored
-- where `put` says. A refusal changes nothing, and is NoRoom only if there is no room.
pub record Fills (m : State → Meaning ℕ) (put : State → Text → State) (pool : ℕ) (old : KernelState)
    (r : Result ℕ Refusal)
    (new : KernelState) : Type 0 where
  pub step : Steps m old r new
  pub made : IfOk r (λ n. MakesBytes put pool n old new)
  pub refused : OnErr r (new ≡ old)
  pub cache : new.cache ≡ old.cache
  pub sound : IsSound new
  pub stays : Stays old.store new.store
  pub no_room : (p : ℕ) → r ≡ Err (NoRoom p) → IsFalse (has_room old.store pool (m (machine_of [] old)).answer)

-- a write of these bytes to a pipe or a connection, if there is room for them
abbrev pub FillsQueue : (d fd pool : ℕ) → List ℕ → (old : KernelState) → Result ℕ Refusal → (new : KernelState) → Type 0
FillsQueue d fd pool bytes old r new = Fills (λ s. writing.write s d fd bytes) (written_to d fd) pool old r new

-- a write of these bytes to a pipe or a connection, before which clean extents are evicted
abbrev pub PlacesInQueue : (d fd : ℕ) → List ℕ → (old : KernelState) → Result ℕ Refusal → (new : KernelState) → Type 0
PlacesInQueue d fd bytes old r new =
    let s : State = machine_of [] old in
    Places (λ s. writing.write s d fd bytes) (written_to d fd) (lands_in d fd s) (writing.write s d fd bytes).answer old
    r new

-- Bytes are written to a descriptor that is open on a queue, before which clean extents are evicted: the result, and
-- the number of slices.
pub record PutsInQueue (d fd : ℕ) (target : Descriptor) (bytes : List ℕ) (old : KernelState) (r : Result ℕ Refusal)
    (new : KernelState) : Type 0 where
  pub places : PlacesInQueue d fd bytes old r new
  pub slices : OnOk r (QueuesFew (length bytes) (Some target) old new)

-- the pool of bytes that are written to this descriptor
abbrev pub pool_to_write : KernelState → (d fd : ℕ) → ℕ
pool_to_write h d fd = lands_in d fd (machine_of [] h)

-- whether as many of these bytes as the descriptor takes fit in their pool
abbrev pub can_fit_write : KernelState → (d fd : ℕ) → List ℕ → Bool
can_fit_write h d fd bytes = can_fit h (pool_to_write h d fd) (writing.write (machine_of [] h) d fd bytes).answer

-- These bytes were written by copying, to any object of the descriptor: the machine's step over any store, and the
-- places of the bytes, in a queue or in a file. NoRoom is returned only if the bytes taken do not fit in their pool;
-- success and Memory only if they do. Any refusal except NoRoom and Memory changed nothing.
pub record WritesBytes (d fd : ℕ) (bytes : List ℕ) (old : KernelState) (r : Result ℕ Refusal) (new : KernelState) :
    Type 0 where
  pub serves : (disk : Disk) → Serves (λ s. writing.write s d fd bytes) disk old r disk new
  pub queue : IsFalse (writing.is_file (descriptor (machine_of [] old) d fd)) → PlacesInQueue d fd bytes old r new
  pub slices : IsFalse (writing.is_file (descriptor (machine_of [] old) d fd))
      → OnOk r (QueuesFew (length bytes) (descriptor (machine_of [] old) d fd) old new)
  pub room : OnOk r (IsTrue (can_fit_write old d fd bytes))
  pub no_room : (p : ℕ) → r ≡ Err (NoRoom p) → IsFalse (can_fit_write old d fd bytes)
  pub memory : r ≡ Err Memory → IsTrue (can_fit_write old d fd bytes)
  pub refused : IfErr r (λ x. (new ≡ old) ⊎ WantOfRoom (pool_to_write old d fd) x)
  pub puts : PutsOn (descriptor (machine_of [] old) d fd) (pool_to_write old d fd) (length bytes) old r new
  pub lays : LaysOn (descriptor (machine_of [] old) d fd) (pool_to_write old d fd) bytes old r new
