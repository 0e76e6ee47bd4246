-- A file is found by its name, and opened.
use Rattle.std.proofs.Common.{◌≡◌, ℕ, ◌+◌, ◌<◌, ◌≤◌, ◌∙◌, true, List, Option, refl, sym, ap, arith}
use Rattle.std.specs.Prelude.{position, option_map, bytes_eq}
use Rattle.iol_core.specs.NumberedLists.{is_numbered, numbered_or, lowest, placed}
use Rattle.iol_core.specs.State as machine
use Rattle.iol_core.specs.State.{State, Domain}
use Rattle.iol_core.specs.Calls.Descriptors as fds
use Rattle.iol_core.specs.Calls.Files as calls
use Rattle.iol_core.specs.declared.descriptors.Descriptor.{Descriptor}
use Rattle.iol_core.specs.declared.descriptors.Descriptor.TheVariants as on
use Rattle.iol_core.specs.declared.descriptors.Mode.{Mode}
use Rattle.iol_core.specs.declared.limits.TheConstants.{MAX_FILES}
use Rattle.iol_cache.proofs.Extents.FileEntries.{numbered_bounds}
use Rattle.iol_desc.specs.Tables.{domain_in, with_fds_in, with_next_fd}
use Rattle.iol_kernel.specs.Calls.{Answers}
use Rattle.iol_kernel.specs.EndCounts.{same_end, IsOpenOnce}
use Rattle.iol_kernel.specs.Files.{opens}
use Rattle.iol_kernel.specs.KernelState.{KernelState, objects_of, IsOpenEnd, IsSound, read_of}
use Rattle.iol_kernel.specs.Readings.{Reading}
use Rattle.iol_kernel.proofs.State.TableCalls.{answers_here}
use Rattle.iol_kernel.proofs.State.Effects.{fds-changed, fds-sound}
use Rattle.iol_kernel.proofs.FileCalls.FileNames.{as_many, files-read_of}
use Rattle.iol_kernel.proofs.State.Once.{ends-placed, once_fewer}
use Rattle.iol_kernel.proofs.State.ReadOf.{fds-read_of}
use Rattle.iol_kernel.proofs.State.Sound.{each-placed, ends_open}
use Rattle.iol_kernel.proofs.State.Uses.{Domains}

pub file_called-read_of : (f : Reading) (h : KernelState) (name : List ℕ)
    → option_map (λ i. i + 1) (position (λ x. bytes_eq x.name name) h.files) ≡ calls.file_called (read_of f h) name
file_called-read_of f h name =
    ap (λ (fs : List machine.File). option_map (λ i. i + 1) (position (λ x. bytes_eq x.name name) fs))
    (sym (files-read_of f h))

-- the pool of a file
pub file_pool-read_of : (f : Reading) (h : KernelState) (n : ℕ)
    → machine.file (read_of f h) n ≡ numbered_or h.files n machine.no_file
unfolding machine.file
file_pool-read_of f h n = ap (λ (fs : List machine.File). numbered_or fs n machine.no_file) (files-read_of f h)

-- files have the numbers of slots
pub file_within : (h : KernelState) (n : ℕ) → IsSound h → is_numbered h.files n ≡ true → (0 < n) × (n ≤ MAX_FILES)
file_within h n sound there = let bounds = numbered_bounds h.files n there in
    (bounds.0, omega (arith, bounds.1, as_many h sound.filed, sound.limits.objects.few_files))

-- A number is open on a file: of a file no descriptor is counted.

pub same_end-file : (e : Descriptor) (f at : ℕ) (mode : Mode) → same_end e (on.File f at mode) ≡ 0
same_end-file (on.File g was how) f at mode = refl
same_end-file (on.ReadEnd p) f at mode = refl
same_end-file (on.WriteEnd p) f at mode = refl
same_end-file (on.Connection c) f at mode = refl

pub once_opened : (ds : Domains) (d f at : ℕ) (mode : Mode) → (domain_in ds d).live ≡ true → IsOpenOnce ds
    → IsOpenOnce (with_fds_in ds d (with_next_fd (domain_in ds d).fds (on.File f at mode)))
once_opened ds d f at mode live once =
    let xs : List (Option Descriptor) = (domain_in ds d).fds in
    once_fewer ds d (record (domain_in ds d) { fds = placed xs (lowest xs) (on.File f at mode) }) live
    (λ e. omega (arith, ends-placed e (on.File f at mode) xs, same_end-file e f at mode)) once

-- An open file: a domain's next descriptor.

module _ (h : KernelState) (ds : Domains) (d f : ℕ) (mode : Mode) (sound : IsSound h)
    (live : (domain_in h.domains d).live ≡ true) (there : is_numbered h.files f ≡ true)
    (opened' : ds ≡ with_fds_in h.domains d (with_next_fd (domain_in h.domains d).fds (on.File f 0 mode))) where
  abbrev xs : List (Option Descriptor)
  xs = (domain_in h.domains d).fds

  opened-sound : IsSound (record h { domains = ds })
  opened-sound = fds-sound h ds d (placed xs (lowest xs) (on.File f 0 mode)) sound live opened'
      (each-placed (IsOpenEnd (objects_of h)) xs (lowest xs) (on.File f 0 mode) (ends_open h d sound)
      (there, omega arith))
      (once_opened h.domains d f 0 mode live sound.once)

  pub opened_answers : (n : ℕ) → n ≡ lowest xs
      → Answers (λ s. opens s d (on.File f 0 mode)) h n (record h { domains = ds })
  opened_answers n number =
      answers_here (λ s. opens s d (on.File f 0 mode)) h (record h { domains = ds }) n opened-sound refl refl
      (λ g. number ∙ sym (ap lowest (fds-read_of g h d))) refl
      (λ g. fds-changed g h ds d (placed xs (lowest xs) (on.File f 0 mode)) opened'
      ∙ ap
      (λ (ys : List (Option Descriptor)). fds.with_fds (read_of g h) d (placed ys (lowest ys) (on.File f 0 mode)))
      (sym (fds-read_of g h d)))
