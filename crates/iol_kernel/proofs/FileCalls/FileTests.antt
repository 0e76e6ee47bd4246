-- The refusals of a read of a file before it asks the store.
use Rattle.std.proofs.Common.{◌≡◌, ℕ, [], ◌∷◌, ap, ◌∙◌, refl, sym, subst, Option, Some, None, Bool, true, false}
use Rattle.std.specs.Prelude.{Err, MatchOption, is_none, not, nat_lt, ◌&&◌, if◌then◌else◌}
use Rattle.iol_core.specs.State as machine
use Rattle.iol_core.specs.State.{State}
use Rattle.iol_core.specs.Meaning.{Meaning, first, ◌when◌}
use Rattle.iol_core.specs.Calls.Aggregates as aggs
use Rattle.iol_core.specs.Calls.Descriptors as fds
use Rattle.iol_core.specs.Calls.Files.{open_on}
use Rattle.iol_core.specs.Calls.Reads as reading
use Rattle.iol_core.specs.declared.descriptors.Descriptor.{Descriptor}
use Rattle.iol_core.specs.declared.descriptors.Descriptor.TheVariants as on
use Rattle.iol_core.specs.declared.descriptors.Mode.{Mode}
use Rattle.iol_core.specs.declared.refusals.Refusal.{Refusal}
use Rattle.iol_core.specs.declared.refusals.Refusal.TheVariants.{BadFd, NoDomain, TooMany, WouldBlock, WrongMode}
use Rattle.iol_back.specs.Disk.{Disk}
use Rattle.iol_kernel.specs.FileCalls.{Serves, with_slots}
use Rattle.iol_kernel.specs.FileReads.{FileRead, IsOpenAt, held_by, read_tests}
use Rattle.iol_kernel.specs.KernelState.{KernelState, IsSound, machine_of, read_of}
use Rattle.iol_kernel.specs.Readings.{Reading, bytes_over}
use Rattle.iol_kernel.proofs.FileCalls.FileReads.{iol_read-tests, read-tests, refuses}

-- a read of a file never has to wait
never : (b : Bool) → (b && true && false) ≡ false
never true = refl
never false = refl

without_last : (a b c : Option Refusal) → first (a ∷ b ∷ c ∷ None ∷ []) ≡ first (a ∷ b ∷ c ∷ [])
without_last (Some x) b c = refl
without_last None (Some x) c = refl
without_last None None (Some x) = refl
without_last None None None = refl

without_none : (a c : Option Refusal) → first (a ∷ c ∷ None ∷ []) ≡ first (a ∷ None ∷ c ∷ [])
without_none (Some x) c = refl
without_none None (Some x) = refl
without_none None None = refl

module _ {x : FileRead} {h : KernelState} (held : IsOpenAt h x) where
  abbrev s : State
  s = machine_of [] h

  live : machine.is_live s x.domain ≡ true
  live = held.is.live (bytes_over [] h.store)

  from : machine.descriptor s x.domain x.fd ≡ Some (on.File x.file x.at x.mode)
  from = held.is.from (bytes_over [] h.store)

  abbrev denied : Option Refusal
  denied = fds.denied_by s x.domain (Some (machine.file s x.file).pool)

  abbrev many : Option Refusal
  many = TooMany when aggs.too_many_aggs s x.domain 1 0

  pub iol_read-first : first (reading.iol_read s x.domain x.fd x.count).refusals
      ≡ first (read_tests s x.domain x.file x.mode true)
  iol_read-first =
      ap
      (λ b. first ((NoDomain when not b) ∷ (BadFd when is_none (machine.descriptor s x.domain x.fd))
      ∷ (WrongMode when not (reading.can_read (machine.descriptor s x.domain x.fd))) ∷ many
      ∷ reading.read_denied s x.domain (machine.descriptor s x.domain x.fd) x.count
      ∷ (WouldBlock when reading.must_wait s (machine.descriptor s x.domain x.fd) x.count) ∷ [])) live
      ∙ ap (λ (o : Option Descriptor). first ((BadFd when is_none o) ∷ (WrongMode when not (reading.can_read o)) ∷ many
      ∷ reading.read_denied s x.domain o x.count ∷ (WouldBlock when reading.must_wait s o x.count) ∷ [])) from
      ∙ ap (λ b. first ((WrongMode when not (reading.reads x.mode)) ∷ many ∷ denied ∷ (WouldBlock when b) ∷ []))
      (never (nat_lt 0 x.count))
      ∙ without_last (WrongMode when not (reading.reads x.mode)) many denied

  pub read-first : first (reading.read s x.domain x.fd x.count).refusals
      ≡ first (read_tests s x.domain x.file x.mode false)
  read-first =
      ap
      (λ b. first ((NoDomain when not b) ∷ (BadFd when is_none (machine.descriptor s x.domain x.fd))
      ∷ (WrongMode when not (reading.can_read (machine.descriptor s x.domain x.fd)))
      ∷ reading.read_denied s x.domain (machine.descriptor s x.domain x.fd) x.count
      ∷ (WouldBlock when reading.must_wait s (machine.descriptor s x.domain x.fd) x.count) ∷ [])) live
      ∙ ap (λ (o : Option Descriptor). first ((BadFd when is_none o) ∷ (WrongMode when not (reading.can_read o))
      ∷ reading.read_denied s x.domain o x.count ∷ (WouldBlock when reading.must_wait s o x.count) ∷ [])) from
      ∙ ap (λ b. first ((WrongMode when not (reading.reads x.mode)) ∷ denied ∷ (WouldBlock when b) ∷ []))
      (never (nat_lt 0 x.count))
      ∙ without_none (WrongMode when not (reading.reads x.mode)) denied

-- a read by reference that passes makes no aggregate too many
pub read_few : (s : State) (d f : ℕ) (mode : Mode) → first (read_tests s d f mode true) ≡ None
    → aggs.too_many_aggs s d 1 0 ≡ false
read_few s d f mode =
    of (not (reading.reads mode)) (aggs.too_many_aggs s d 1 0) (fds.denied_by s d (Some (machine.file s f).pool))
  where
    of : (wrong many : Bool) (denied : Option Refusal)
        → first ((WrongMode when wrong) ∷ (TooMany when many) ∷ denied ∷ []) ≡ None → many ≡ false
    of wrong false denied none = refl
    of true true denied none = absurd (cc none)
    of false true denied none = absurd (cc none)

-- A read that one of these tests refuses, and that changes nothing.

refused_now : {A : Type 0} (m : Meaning A) (y : Refusal) → first m.refusals ≡ Some y
    → MatchOption (first m.refusals) (m.Late y) (λ z. y ≡ z)
refused_now m y is = subst (λ (o : Option Refusal). MatchOption o (m.Late y) (λ z. y ≡ z)) (sym is) refl

pub refuses_iol_read : (h k : KernelState) (d fd n : ℕ) (y : Refusal) → IsSound h
    → first (reading.iol_read (machine_of [] h) d fd n).refusals ≡ Some y → k ≡ h → (disk : Disk)
    → Serves (λ s. reading.iol_read s d fd n) disk h (Err y) disk k
refuses_iol_read h k d fd n y sound is =
    refuses (λ s. reading.iol_read s d fd n) h k y sound
    (λ slots. refused_now (reading.iol_read (with_slots slots h) d fd n) y (iol_read-tests slots h d fd n ∙ is))

pub refuses_read : (h k : KernelState) (d fd n : ℕ) (y : Refusal) → IsSound h
    → first (reading.read (machine_of [] h) d fd n).refusals ≡ Some y → k ≡ h → (disk : Disk)
    → Serves (λ s. reading.read s d fd n) disk h (Err y) disk k
refuses_read h k d fd n y sound is =
    refuses (λ s. reading.read s d fd n) h k y sound
    (λ slots. refused_now (reading.read (with_slots slots h) d fd n) y (read-tests slots h d fd n ∙ is))

-- a descriptor on a file is not on a queue

on_file : (live : Bool) (o : Option Descriptor) (f at : ℕ) (mode : Mode) → live ≡ true → o ≡ Some (on.File f at mode)
    → open_on (if live then o else None) ≡ None → ⊥
on_file live o f at mode is there none =
    (let both : ◌≡◌ {A = Option (ℕ × ℕ × Mode)} (Some (f, at, mode)) None =
    ap (λ (p : Option Descriptor). open_on p) (sym there) ∙ ap (λ b. open_on (if b then o else None)) (sym is) ∙ none in
    cc both)

pub no_queue : (h : KernelState) (d fd : ℕ) {f at : ℕ} {mode : Mode} → machine.is_live (machine_of [] h) d ≡ true
    → machine.descriptor (machine_of [] h) d fd ≡ Some (on.File f at mode)
    → ((r : Reading) → open_on (held_by (read_of r h) d fd) ≡ None) → ⊥
no_queue h d fd {f} {at} {mode} live from none =
    on_file (machine.is_live (machine_of [] h) d) (machine.descriptor (machine_of [] h) d fd) f at mode live from
    (none (bytes_over [] h.store))
