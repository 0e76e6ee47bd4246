-- The end of a file for the calls that ask for a length, over any store.
use Rattle.std.proofs.Common.{◌≡◌, ℕ, ◌+◌, ◌<◌, ◌≤◌, Bool, true, false, [], length, Option, Some, None, sym, ap, subst}
use Rattle.std.proofs.Common.{arith, ◌∙◌}
use Rattle.std.specs.Prelude.{Result, nat_lt, if◌then◌else◌}
use Rattle.std.proofs.lemmas.Bool.Decides.{nat_tests}
use Rattle.iol_core.specs.State as machine
use Rattle.iol_core.specs.Calls.Files.{open_on}
use Rattle.iol_core.specs.declared.descriptors.Descriptor.{Descriptor}
use Rattle.iol_core.specs.declared.descriptors.Descriptor.TheVariants as on
use Rattle.iol_core.specs.declared.descriptors.Mode.{Mode}
use Rattle.iol_core.specs.declared.limits.TheConstants.{MAX_FILES, MAX_FILE_BYTES}
use Rattle.iol_core.specs.declared.refusals.Refusal.{Refusal}
use Rattle.iol_back.specs.Disk.{Disk, length_reported}
use Rattle.iol_cache.specs.ReadResults.{IsEnd}
use Rattle.iol_kernel.specs.FileLengths.{EndsAt, EndsOn, SeeksAt, SeeksOn, SeeksTo, is_next_long}
use Rattle.iol_kernel.specs.FileReads.{held_by}
use Rattle.iol_kernel.specs.KernelState.{KernelState, machine_of}
use Rattle.iol_kernel.specs.OpenDescriptors.{IsOpenOn}
use Rattle.iol_kernel.specs.Readings.{bytes_over}

-- Facts of the descriptor of a live domain.

-- the descriptor, of a domain that is live or not
abbrev if_live : Bool → Option Descriptor → Option Descriptor
if_live live o = if live then o else None

held_as : (h : KernelState) (d fd : ℕ) (live : Bool) (o : Option Descriptor) (P : Option Descriptor → Type 0)
    → machine.is_live (machine_of [] h) d ≡ live → machine.descriptor (machine_of [] h) d fd ≡ o → P (if_live live o)
    → P (if_live (machine.is_live (machine_of [] h) d) (machine.descriptor (machine_of [] h) d fd))
held_as h d fd live o P is there p =
    subst (λ (b : Bool). P (if_live b (machine.descriptor (machine_of [] h) d fd))) (sym is)
    (subst (λ (x : Option Descriptor). P (if_live live x)) (sym there) p)

module _ (disk : Disk) (h : KernelState) (d fd : ℕ) where
  -- a position in an object that is not a file
  seeks_none : {A : Type 0} (o : Option Descriptor) (at : ℕ) (r : Result A Refusal) → open_on o ≡ None
      → SeeksOn o at disk h r
  seeks_none None at r none = tt
  seeks_none (Some (on.File f was mode)) at r none = absurd (cc none)
  seeks_none (Some (on.ReadEnd p)) at r none = tt
  seeks_none (Some (on.WriteEnd p)) at r none = tt
  seeks_none (Some (on.Connection c)) at r none = tt

  pub seeks_nothing : {A : Type 0} (at : ℕ) (r : Result A Refusal) → open_on (held_by (machine_of [] h) d fd) ≡ None
      → SeeksAt d fd at disk h r
  seeks_nothing at r none = seeks_none (held_by (machine_of [] h) d fd) at r none

  module _ (f was : ℕ) (mode : Mode) (held : IsOpenOn h d fd (on.File f was mode)) where
    pub seeks_file : {A : Type 0} (at : ℕ) (r : Result A Refusal) → SeeksTo f at disk h.cache r
        → SeeksAt d fd at disk h r
    seeks_file at r seeks =
        held_as h d fd true (Some (on.File f was mode)) (λ x. SeeksOn x at disk h r) (held.live (bytes_over [] h.store))
        (held.from (bytes_over [] h.store)) seeks

    pub ends_file : (end : ℕ) → IsEnd disk h.cache f end → EndsAt d fd end disk h
    ends_file end ends =
        held_as h d fd true (Some (on.File f was mode)) (λ x. EndsOn x end disk h) (held.live (bytes_over [] h.store))
        (held.from (bytes_over [] h.store)) ends

-- Whether the store reports that the next slot is too long.

pub no_next : (disk : Disk) (h : KernelState) → MAX_FILES ≤ length h.files → false ≡ is_next_long disk h
no_next disk h full =
    let b : nat_lt (length h.files) MAX_FILES ≡ false = grind (arith, nat_tests, full) in
    sym
    (ap
    (λ (x : Bool). if x then nat_lt MAX_FILE_BYTES (length_reported disk.reported (length h.files + 1)) else false)
    b)

pub next_long : (disk : Disk) (h : KernelState) (n : ℕ) → length h.files < MAX_FILES
    → n ≡ length_reported disk.reported (length h.files + 1)
    → nat_lt MAX_FILE_BYTES n ≡ is_next_long disk h
next_long disk h n few reported =
    let b : nat_lt (length h.files) MAX_FILES ≡ true = grind (arith, nat_tests, few) in
    ap (nat_lt MAX_FILE_BYTES) reported
    ∙ sym
    (ap
    (λ (x : Bool). if x then nat_lt MAX_FILE_BYTES (length_reported disk.reported (length h.files + 1)) else false)
    b)
