-- The end of a file, over any store: the results of the calls that ask for a length, in terms of the length that the
-- store reports.
use Rattle.std.specs.Prelude.{◌≡◌, ℕ, ◌+◌, ◌<◌, ◌≤◌, Bool, false, [], length, nat_lt, if◌then◌else◌, Option, Some}
use Rattle.std.specs.Prelude.{None, Result, Ok, Err, OnOk, IfOk, IfErr, OnErr, ⊤, IsTrue, IsFalse}
use Rattle.iol_core.specs.Prelude.{content, is_live, open_on}
use Rattle.iol_core.specs.Meaning.{first}
use Rattle.iol_core.specs.NumberedLists.{is_numbered}
use Rattle.iol_core.specs.Calls.Files.{file_length}
use Rattle.iol_core.specs.declared.descriptors.Descriptor.{Descriptor}
use Rattle.iol_core.specs.declared.descriptors.Descriptor.TheVariants as on
use Rattle.iol_core.specs.declared.limits.TheConstants.{MAX_FILES, MAX_FILE_BYTES}
use Rattle.iol_core.specs.declared.refusals.Refusal.{Refusal}
use Rattle.iol_core.specs.declared.refusals.Refusal.TheVariants.{BadRange, Denied, Memory, PoolClosed, TooLong, TooMany}
use Rattle.iol_back.specs.Disk.{Disk, IfHonest, length_reported}
use Rattle.iol_cache.specs.CacheState.{Cached}
use Rattle.iol_cache.specs.ReadResults.{IsEnd}
use Rattle.iol_kernel.specs.FileCalls.{IsBackedBy}
use Rattle.iol_kernel.specs.Calls.{ReportsNext}
use Rattle.iol_kernel.specs.FileReads.{held_by}
use Rattle.iol_kernel.specs.KernelState.{KernelState, IsSound, machine_of, read_of}
use Rattle.iol_kernel.specs.OpenDescriptors.{IsOnFile}
use Rattle.iol_kernel.specs.Readings.{Reading}
use Rattle.iol_kernel.specs.declared.open_file.OpenFile.{OpenFile}

-- Between two events: a file is in this slot.
pub record HasFile (h : KernelState) (f : ℕ) : Type 0 where
  pub sound : IsSound h
  pub there : IsTrue (is_numbered h.files f)

-- Between two events: the domain is live, and the file exists.
pub record HasFileFor (h : KernelState) (d f : ℕ) : Type 0 where
  pub file : HasFile h f
  pub live : IsTrue (is_live (machine_of [] h) d)

-- n is the end of the file for a read now; if the store backs the extents in memory, it is the length of the file.
pub record IsLengthOf (disk : Disk) (h : KernelState) (f n : ℕ) : Type 0 where
  pub is : IsBackedBy disk h → n ≡ length (content (machine_of disk.slots h) f)
  pub end : IsEnd disk h.cache f n

-- The result of looking for the file that a descriptor is open on. It is refused as `length` is, and only if the
-- descriptor is not open on a file.
pub record FindsFile (d fd : ℕ) (h : KernelState) (r : Result OpenFile Refusal) : Type 0 where
  pub found : IfOk r (λ x. IsOnFile h d fd x.file x.at x.mode)
  pub refused : IfErr r (λ x. (f : Reading) → first (file_length (read_of f h) d fd).refusals ≡ Some x)
  pub none : OnErr r ((f : Reading) → open_on (held_by (read_of f h) d fd) ≡ None)

-- the file that a descriptor is open on ends there for a read of it
abbrev pub EndsOn : Option Descriptor → (end : ℕ) → Disk → KernelState → Type 0
EndsOn (Some (on.File f at mode)) end disk h = IsEnd disk h.cache f end
EndsOn _ end disk h = ⊤

-- the file that a live domain's descriptor is open on ends there for a read of it
abbrev pub EndsAt : (d fd end : ℕ) → Disk → KernelState → Type 0
EndsAt d fd end disk h = EndsOn (held_by (machine_of [] h) d fd) end disk h

-- The result of seeking a position in a file: success only if it is not past the file's end, and BadRange only if it
-- is.
pub record SeeksTo {A : Type 0} (f at : ℕ) (disk : Disk) (c : Cached) (r : Result A Refusal) : Type 0 where
  pub end : ℕ
  pub ends : IsEnd disk c f end
  pub within : OnOk r (at ≤ end)
  pub beyond : r ≡ Err BadRange → end < at

-- the result of seeking a position, if the descriptor is open on a file
abbrev pub SeeksOn : {A : Type 0} → Option Descriptor → (at : ℕ) → Disk → KernelState → Result A Refusal → Type 0
SeeksOn (Some (on.File f was mode)) at disk h r = SeeksTo f at disk h.cache r
SeeksOn _ at disk h r = ⊤

-- the result of seeking a position, if a live domain's descriptor is open on a file
abbrev pub SeeksAt : {A : Type 0} → (d fd at : ℕ) → Disk → KernelState → Result A Refusal → Type 0
SeeksAt d fd at disk h r = SeeksOn (held_by (machine_of [] h) d fd) at disk h r

-- whether the store reports more bytes for the next slot than a file may have; false if there is no next slot
abbrev pub is_next_long : Disk → KernelState → Bool
is_next_long disk h = if nat_lt (length h.files) MAX_FILES
    then nat_lt MAX_FILE_BYTES (length_reported disk.reported (length h.files + 1)) else false

-- The result of asking whether the next slot has more bytes than a file may have: true if the store reports such a
-- length, and false past the last slot. For an honest store this is true of the slot's content, and for any store of
-- some possible content.
pub record AsksNext (disk : Disk) (h : KernelState) (more : Bool) : Type 0 where
  pub honest : IfHonest disk ((f : Reading) → f.stored ≡ disk.slots
      → more ≡ nat_lt MAX_FILE_BYTES (length (content (read_of f h) (length (read_of f h).files + 1))))
  pub reported : ReportsNext h more
  pub long : more ≡ is_next_long disk h

-- The result of naming the next slot. TooLong is returned only if the store reports too many bytes for it; success and
-- the refusals tested after TooLong are returned only if it does not.
abbrev pub FitsNext : {A : Type 0} → Disk → KernelState → Result A Refusal → Type 0
FitsNext disk h (Ok x) = IsFalse (is_next_long disk h)
FitsNext disk h (Err TooLong) = IsTrue (is_next_long disk h)
FitsNext disk h (Err TooMany) = IsFalse (is_next_long disk h)
FitsNext disk h (Err (Denied p)) = IsFalse (is_next_long disk h)
FitsNext disk h (Err (PoolClosed p)) = IsFalse (is_next_long disk h)
FitsNext disk h (Err Memory) = IsFalse (is_next_long disk h)
FitsNext disk h (Err x) = ⊤
