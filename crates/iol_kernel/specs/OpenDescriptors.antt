-- The object that a call's descriptor is open on, for each reading of the kernel.
use Rattle.std.specs.Prelude.{◌≡◌, ℕ, ◌≤◌, Some, IsTrue, IsFalse}
use Rattle.iol_core.specs.NumberedLists.{is_numbered}
use Rattle.iol_core.specs.State.{is_live, descriptor}
use Rattle.iol_core.specs.Calls.Writes.{is_file}
use Rattle.iol_core.specs.declared.descriptors.Mode.{Mode}
use Rattle.iol_core.specs.declared.descriptors.Descriptor.{Descriptor}
use Rattle.iol_core.specs.declared.descriptors.Descriptor.TheVariants as on
use Rattle.iol_core.specs.declared.limits.TheConstants.{MAX_FILE_BYTES}
use Rattle.iol_kernel.specs.KernelState.{KernelState, IsSound, read_of}
use Rattle.iol_kernel.specs.Readings.{Reading}

-- Between two events: the domain is live, and its descriptor is open on `end`.
pub record IsOpenOn (h : KernelState) (d fd : ℕ) (end : Descriptor) : Type 0 where
  pub sound : IsSound h
  pub live : (f : Reading) → IsTrue (is_live (read_of f h) d)
  pub from : (f : Reading) → descriptor (read_of f h) d fd ≡ Some end

-- Between two events: a live domain's descriptor is open on a file that exists, at a position within the limit of a
-- file.
pub record IsOnFile (h : KernelState) (d fd f at : ℕ) (mode : Mode) : Type 0 where
  pub held : IsOpenOn h d fd (on.File f at mode)
  pub there : IsTrue (is_numbered h.files f)
  pub within : at ≤ MAX_FILE_BYTES

-- Between two events: a live domain's descriptor is open on an end of a pipe or on a connection.
pub record IsOnQueue (h : KernelState) (d fd : ℕ) (end : Descriptor) : Type 0 where
  pub held : IsOpenOn h d fd end
  pub no_file : IsFalse (is_file (Some end))
