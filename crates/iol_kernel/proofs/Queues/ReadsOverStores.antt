-- Bytes that were copied out of a queue, over each store under the files.
use Rattle.std.proofs.Common.{◌≡◌, ℕ, List, [], ap, ◌∙◌, refl, sym, subst, Option, Some, None}
use Rattle.std.specs.Prelude.{Err, MatchOption, Ok}
use Rattle.iol_core.specs.Text.{bytes_of}
use Rattle.iol_core.specs.State as machine
use Rattle.iol_core.specs.State.{State}
use Rattle.iol_core.specs.Meaning.{Meaning, Never, first}
use Rattle.iol_core.specs.Calls.Files.{open_on}
use Rattle.iol_core.specs.Calls.Reads as reading
use Rattle.iol_core.specs.declared.descriptors.Descriptor.{Descriptor}
use Rattle.iol_core.specs.declared.descriptors.Descriptor.TheVariants as on
use Rattle.iol_core.specs.declared.refusals.Refusal.{Refusal}
use Rattle.iol_core.specs.declared.refusals.Refusal.TheVariants.{Memory}
use Rattle.iol_back.specs.Disk.{Disk}
use Rattle.iol_kernel.specs.FileCalls.{Serves, with_slots}
use Rattle.iol_kernel.specs.Calls.{Leaves}
use Rattle.iol_kernel.specs.KernelState.{KernelState, IsSound, machine_of}
use Rattle.iol_kernel.proofs.FileCalls.FileReads.{read-tests}
use Rattle.iol_kernel.proofs.FileCalls.FileTests.{refuses_read}
use Rattle.iol_kernel.proofs.State.CacheUntouched.{still_serves, with_slots-same}
use Rattle.iol_kernel.proofs.State.Stay.{stays_here}

module _ (h : KernelState) (d fd n : ℕ) where
  abbrev called : State → Meaning (List ℕ)
  called s = reading.read s d fd n

  tests_over : (stored : List (List ℕ))
      → first (called (machine_of stored h)).refusals ≡ first (called (machine_of [] h)).refusals
  tests_over stored = subst (λ (s : State). first (called s).refusals ≡ first (called (machine_of [] h)).refusals)
      (with_slots-same h stored) (read-tests (machine_of stored h).slots h d fd n)

  -- the text of a queue does not depend on files
  text_of_queue : (slots : List (List ℕ)) (o : Option Descriptor) → open_on o ≡ None
      → bytes_of (reading.read_text (with_slots slots h) d o n) ≡ bytes_of (reading.read_text (machine_of [] h) d o n)
  unfolding with_slots machine.pipe_at machine.conn_at machine.pool
  text_of_queue slots None none = refl
  text_of_queue slots (Some (on.File f at mode)) none = absurd (cc none)
  text_of_queue slots (Some (on.ReadEnd p)) none = refl
  text_of_queue slots (Some (on.WriteEnd p)) none = refl
  text_of_queue slots (Some (on.Connection c)) none = refl

  same_descriptor : (slots : List (List ℕ))
      → machine.descriptor (with_slots slots h) d fd ≡ machine.descriptor (machine_of [] h) d fd
  unfolding with_slots machine.domain
  same_descriptor slots = refl

  answer_beside : (slots : List (List ℕ)) → open_on (machine.descriptor (machine_of [] h) d fd) ≡ None
      → (called (with_slots slots h)).answer ≡ (called (machine_of [] h)).answer
  answer_beside slots none =
      ap (λ (o : Option Descriptor). bytes_of (reading.read_text (with_slots slots h) d o n)) (same_descriptor slots)
      ∙ text_of_queue slots (machine.descriptor (machine_of [] h) d fd) none

  answer_over : (stored : List (List ℕ)) → open_on (machine.descriptor (machine_of [] h) d fd) ≡ None
      → (called (machine_of stored h)).answer ≡ (called (machine_of [] h)).answer
  answer_over stored none =
      subst (λ (s : State). (called s).answer ≡ (called (machine_of [] h)).answer) (with_slots-same h stored)
      (answer_beside (machine_of stored h).slots none)

  -- they were taken off
  pub taken_serves : (k : KernelState) (bytes : List ℕ) → IsSound h
      → open_on (machine.descriptor (machine_of [] h) d fd) ≡ None → first (called (machine_of [] h)).refusals ≡ None
      → bytes ≡ (called (machine_of [] h)).answer → Leaves (λ s. (called s).after) h k → (disk : Disk)
      → Serves called disk h (Ok bytes) disk k
  taken_serves k bytes sound none passed answer left =
      still_serves called h k (Ok bytes) sound left.sound
      (λ stored. (tests_over stored ∙ passed, answer ∙ sym (answer_over stored none), left.bytes stored)) left.cache
      left.sums left.stays

  -- the read was refused
  pub refused_first : (o : Option Refusal) (y : Refusal) → MatchOption o (Never y) (λ z. y ≡ z) → o ≡ Some y
  refused_first None y late = absurd late
  refused_first (Some z) y same = ap Some (sym same)

  pub refused_serves : (k : KernelState) (y : Refusal) → IsSound h
      → MatchOption (first (called (machine_of [] h)).refusals) (Never y) (λ z. y ≡ z) → k ≡ h → (disk : Disk)
      → Serves called disk h (Err y) disk k
  refused_serves k y sound refused =
      refuses_read h k d fd n y sound (refused_first (first (called (machine_of [] h)).refusals) y refused)

  -- there was no memory for the bytes
  late_memory : (s : State) (o : Option Descriptor) → reading.read_late s o Memory
  late_memory s None = tt
  late_memory s (Some (on.File f at mode)) = tt
  late_memory s (Some (on.ReadEnd p)) = tt
  late_memory s (Some (on.WriteEnd p)) = tt
  late_memory s (Some (on.Connection c)) = tt

  pub unread_serves : (k : KernelState) → IsSound h → first (called (machine_of [] h)).refusals ≡ None → k ≡ h
      → (disk : Disk) → Serves called disk h (Err Memory) disk k
  unread_serves k sound passed same disk =
      subst (λ (l : KernelState). Serves called disk h (Err Memory) disk l) (sym same)
      (still_serves called h h (Err Memory) sound sound
      (λ stored. (
        subst (λ (o : Option Refusal). MatchOption o ((called (machine_of stored h)).Late Memory) (λ z. Memory ≡ z))
            (sym (tests_over stored ∙ passed))
            (late_memory (machine_of stored h) (machine.descriptor (machine_of stored h) d fd)),
        refl,
      ))
      refl refl (stays_here h.store) disk)
