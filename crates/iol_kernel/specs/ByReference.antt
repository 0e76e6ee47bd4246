-- Reading and writing by reference, by what a descriptor is open on.
use Rattle.std.specs.Prelude.{ℕ, Result, OnOk, IsFalse}
use Rattle.iol_core.specs.State.{descriptor}
use Rattle.iol_core.specs.Calls.Reads.{iol_read}
use Rattle.iol_core.specs.Calls.Writes.{iol_write, is_file}
use Rattle.iol_core.specs.declared.refusals.Refusal.{Refusal}
use Rattle.iol_back.specs.Disk.{Disk}
use Rattle.iol_kernel.specs.FileReads.{read_at}
use Rattle.iol_kernel.specs.Kernel.{Reads, Serves, TakesFromFile, machine, state_of}
use Rattle.iol_kernel.specs.FileWrites.{WritesOn}
use Rattle.iol_kernel.specs.QueueSlices.{QueuesAgg, TakesSlices}
use Rattle.iol_kernel.specs.declared.kernel.Kernel.{Kernel}
use Rattle.iol_kernel.specs.declared.open_file.OpenFile.{OpenFile}

-- At most n bytes are read by reference: the meaning of the read, the state it leaves, and the slices of the aggregate
-- of a queue's bytes. `disk` is the content of the store under the files.
pub record ReadsByReference {B : Type 0} (d fd n : ℕ) (disk : B → Disk) (store : B) (old : Kernel)
    (r : Result ℕ Refusal)
    (after : B) (new : Kernel) : Type 0 where
  pub serves : Serves (λ s. iol_read s d fd n) (disk store) old r (disk after) new
  pub reads : Reads d fd n (disk store) old r (disk after) new
  pub slices : IsFalse (is_file (descriptor (machine old) d fd))
      → OnOk r (TakesSlices d (descriptor (machine old) d fd) (state_of old) (state_of new))

-- At most n bytes are read by reference from a file that was found open.
abbrev pub TakesFound : {B : Type 0} → (d fd : ℕ) → OpenFile → (n : ℕ) (disk : B → Disk) (store : B) (old : Kernel)
    → Result ℕ Refusal → (after : B) (new : Kernel) → Type 0
TakesFound d fd found n disk store old r after new =
    TakesFromFile (read_at d fd found n) (disk store) old r (disk after) new

-- An aggregate is written by reference: the meaning of the write over each store, the state it leaves, and the slices
-- that a queue got.
pub record WritesByReference (d fd a : ℕ) (old : Kernel) (r : Result ℕ Refusal) (new : Kernel) : Type 0 where
  pub serves : (disk : Disk) → Serves (λ s. iol_write s d fd a) disk old r disk new
  pub writes : WritesOn d fd a (descriptor (machine old) d fd) (state_of old) r (state_of new)
  pub slices : IsFalse (is_file (descriptor (machine old) d fd))
      → OnOk r (QueuesAgg d a (descriptor (machine old) d fd) (state_of old) (state_of new))
