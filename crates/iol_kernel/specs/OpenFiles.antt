-- Files that descriptors are open on: how they are found, and their lengths.
use Rattle.std.specs.Prelude.{◌≡◌, ℕ, ◌≤◌, Option, Some, None, IfSome, Result, IfOk, IsTrue}
use Rattle.iol_core.specs.State.{is_live, descriptor}
use Rattle.iol_core.specs.Calls.Files.{file_length}
use Rattle.iol_core.specs.Prelude.{open_on}
use Rattle.iol_core.specs.declared.descriptors.Descriptor.{Descriptor}
use Rattle.iol_core.specs.declared.descriptors.Descriptor.TheVariants as on
use Rattle.iol_core.specs.declared.limits.TheConstants.{MAX_FILE_BYTES}
use Rattle.iol_core.specs.declared.refusals.Refusal.{Refusal}
use Rattle.iol_back.specs.Disk.{Disk}
use Rattle.iol_kernel.specs.FileCalls.{LooksUp}
use Rattle.iol_kernel.specs.FileLengths.{EndsAt}
use Rattle.iol_kernel.specs.FileReads.{held_by}
use Rattle.iol_kernel.specs.KernelState.{KernelState, read_of}
use Rattle.iol_kernel.specs.Readings.{Reading}
use Rattle.iol_kernel.specs.declared.open_file.OpenFile.{OpenFile}

-- a descriptor that is open on this file, at its position and in its mode
abbrev pub descriptor_of : OpenFile → Descriptor
descriptor_of x = on.File x.file x.at x.mode

-- The result of looking for the file that a domain's descriptor is open on. A file is returned only if the domain is
-- live and its descriptor is open on it, and None only if no live domain's descriptor is open on a file there.
pub record FindsOpen (d fd : ℕ) (h : KernelState) (r : Option OpenFile) : Type 0 where
  pub live : IfSome r (λ x. (f : Reading) → IsTrue (is_live (read_of f h) d))
  pub from : IfSome r (λ x. (f : Reading) → descriptor (read_of f h) d fd ≡ Some (descriptor_of x))
  pub none : r ≡ None → (f : Reading) → open_on (held_by (read_of f h) d fd) ≡ None

-- The result of asking for the length of the file that a descriptor is open on: its meaning. A length returned is at
-- most the limit of a file, and a read of the file ends there.
pub record ReportsLength (d fd : ℕ) (disk : Disk) (h : KernelState) (r : Result ℕ Refusal) : Type 0 where
  pub reported : LooksUp (λ s. file_length s d fd) disk h r h
  pub short : IfOk r (λ n. n ≤ MAX_FILE_BYTES)
  pub ends : IfOk r (λ n. EndsAt d fd n disk h)
