-- A read by reference, by the object of the descriptor.
use Rattle.std.proofs.Common.{◌≡◌, ℕ, [], ◌∷◌, ap, ◌∙◌, refl, sym, subst, Option, Some, None, Bool, true, false, inl}
use Rattle.std.proofs.Common.{inr}
use Rattle.std.specs.Prelude.{Result, Err, is_none, not, if◌then◌else◌}
use Rattle.iol_core.specs.Meaning.{◌when◌, first}
use Rattle.iol_core.specs.State.{State, is_live, descriptor}
use Rattle.iol_core.specs.Calls.Aggregates.{too_many_aggs}
use Rattle.iol_core.specs.Calls.Reads as reading
use Rattle.iol_core.specs.Calls.Writes.{is_file}
use Rattle.iol_core.specs.declared.descriptors.Descriptor.{Descriptor}
use Rattle.iol_core.specs.declared.descriptors.Descriptor.TheVariants as on
use Rattle.iol_core.specs.declared.refusals.Refusal.{Refusal}
use Rattle.iol_core.specs.declared.refusals.Refusal.TheVariants.{BadFd, NoDomain, NoRoom, TooMany, WouldBlock}
use Rattle.iol_core.specs.declared.refusals.Refusal.TheVariants.{WrongMode}
use Rattle.iol_back.specs.Disk.{Disk}
use Rattle.iol_kernel.specs.FileCalls.{Serves}
use Rattle.iol_kernel.specs.Calls.{CarriesOut, IsUnopened}
use Rattle.iol_kernel.specs.FileReads.{Reads, ReadsOn, TakesFromFile, held_by, read_at}
use Rattle.iol_kernel.specs.KernelState.{KernelState, IsSound, machine_of, read_of}
use Rattle.iol_kernel.specs.OpenDescriptors.{IsOpenOn}
use Rattle.iol_kernel.specs.Readings.{Reading, bytes_over}
use Rattle.iol_kernel.specs.declared.open_file.OpenFile.{OpenFile}
use Rattle.iol_kernel.proofs.FileCalls.FileTests.{refuses_iol_read}
use Rattle.iol_kernel.proofs.State.Refinement.{carried_refused}

-- the object of a live domain's descriptor
held_is : (live : Bool) (o p : Option Descriptor) → live ≡ true → o ≡ p → (if live then o else None) ≡ p
held_is live o p is from = ap (λ b. if b then o else None) is ∙ from

held_on : (h : KernelState) (d fd : ℕ) (x : Descriptor) → IsOpenOn h d fd x → held_by (machine_of [] h) d fd ≡ Some x
held_on h d fd x held =
    let f = bytes_over [] h.store in
    held_is (is_live (machine_of [] h) d) (descriptor (machine_of [] h) d fd) (Some x) (held.live f) (held.from f)

-- A file.

pub reads_file : (h k : KernelState) (d fd n : ℕ) (x : OpenFile) (r : Result ℕ Refusal) (disk after : Disk)
    → IsOpenOn h d fd (on.File x.file x.at x.mode) → TakesFromFile (read_at d fd x n) disk h r after k
    → Reads d fd n disk h r after k
reads_file h k d fd n x r disk after held t =
    subst (λ o. ReadsOn d fd n o disk h r after k) (sym (held_on h d fd (on.File x.file x.at x.mode) held))
    (t.reads, t.gives)

-- A queue.

on_queue : (h k : KernelState) (d fd n : ℕ) (x : Descriptor) (r : Result ℕ Refusal) (disk : Disk)
    → is_file (Some x) ≡ false → CarriesOut (λ s. reading.iol_read s d fd n) h r k
    → ReadsOn d fd n (Some x) disk h r disk k
on_queue h k d fd n (on.File f at mode) r disk no_file carries = absurd (cc no_file)
on_queue h k d fd n (on.ReadEnd p) r disk no_file carries = (carries, refl)
on_queue h k d fd n (on.WriteEnd p) r disk no_file carries = (carries, refl)
on_queue h k d fd n (on.Connection c) r disk no_file carries = (carries, refl)

pub reads_queue : (h k : KernelState) (d fd n : ℕ) (x : Descriptor) (r : Result ℕ Refusal) (disk : Disk)
    → IsOpenOn h d fd x → is_file (Some x) ≡ false → CarriesOut (λ s. reading.iol_read s d fd n) h r k
    → Reads d fd n disk h r disk k
reads_queue h k d fd n x r disk held no_file carries =
    subst (λ o. ReadsOn d fd n o disk h r disk k) (sym (held_on h d fd x held))
    (on_queue h k d fd n x r disk no_file carries)

-- No domain, or no descriptor.

tests : State → (d n : ℕ) → Bool → Option Descriptor → Option Refusal
tests s d n live from = first (
    (NoDomain when not live) ∷
    (BadFd when is_none from) ∷
    (WrongMode when not (reading.can_read from)) ∷
    (TooMany when too_many_aggs s d 1 0) ∷
    reading.read_denied s d from n ∷
    (WouldBlock when reading.must_wait s from n) ∷ []
    )

refused : (h : KernelState) (d fd n : ℕ) (y : Refusal) → IsUnopened h d fd y → (f : Reading)
    → first (reading.iol_read (read_of f h) d fd n).refusals ≡ Some y
unfolding tests
refused h d fd n y (inl none) f = ap (λ b. tests (read_of f h) d n b (descriptor (read_of f h) d fd)) (none.1 f)
    ∙ ap Some (sym none.0)
refused h d fd n y (inr none) f =
    ap (λ b. tests (read_of f h) d n b (descriptor (read_of f h) d fd)) (none.1 f).0
    ∙ ap (λ o. tests (read_of f h) d n true o) (none.1 f).1 ∙ ap Some (sym none.0)

not_for_room : (h : KernelState) (d fd : ℕ) (y : Refusal) → IsUnopened h d fd y → (p : ℕ) → y ≡ NoRoom p → ⊥
not_for_room h d fd y (inl none) p is = cc (sym none.0 ∙ is)
not_for_room h d fd y (inr none) p is = cc (sym none.0 ∙ is)

held_none : (h : KernelState) (d fd : ℕ) (y : Refusal) → IsUnopened h d fd y → held_by (machine_of [] h) d fd ≡ None
held_none h d fd y (inl none) =
    ap (λ b. if b then descriptor (machine_of [] h) d fd else None) (none.1 (bytes_over [] h.store))
held_none h d fd y (inr none) =
    let is = none.1 (bytes_over [] h.store) in
    held_is (is_live (machine_of [] h) d) (descriptor (machine_of [] h) d fd) None is.0 is.1

module _ (h : KernelState) (d fd n : ℕ) (y : Refusal) (sound : IsSound h) (none : IsUnopened h d fd y) (disk : Disk)
  where
    pub serves_unopened : Serves (λ s. reading.iol_read s d fd n) disk h (Err y) disk h
    serves_unopened = refuses_iol_read h h d fd n y sound (refused h d fd n y none (bytes_over [] h.store)) refl disk

    pub reads_unopened : Reads d fd n disk h (Err y) disk h
    reads_unopened =
        subst (λ o. ReadsOn d fd n o disk h (Err y) disk h) (sym (held_none h d fd y none)) (
          carried_refused (λ s. reading.iol_read s d fd n) h y sound (refused h d fd n y none)
              (not_for_room h d fd y none),
          refl,
        )
