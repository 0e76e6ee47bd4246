-- The machine's state of a kernel, with any bytes of its files.
use Rattle.std.proofs.Common.{◌≡◌, ℕ, ◌-◌, ◌<◌, ◌≤◌, ◌∙◌, List, [], length, get_or, replicate, refl, ap, Option, arith}
use Rattle.std.specs.Prelude.{Err, Result}
use Rattle.std.proofs.lemmas.Bool.Decides.{nat_tests}
use Rattle.std.proofs.lemmas.List.{get_or-replicate, length-replicate}
use Rattle.std.proofs.lemmas.List.FromFn.{get_or-map-range_with_len}
use Rattle.iol_core.specs.NumberedLists.{numbered_or}
use Rattle.iol_core.specs.State as machine
use Rattle.iol_core.specs.State.{State, Domain}
use Rattle.iol_core.specs.Meaning.{Meaning, Step}
use Rattle.iol_core.specs.Calls.Descriptors as fds
use Rattle.iol_core.specs.declared.descriptors.Descriptor.{Descriptor}
use Rattle.iol_core.specs.declared.limits.TheConstants.{MAX_FILES}
use Rattle.iol_core.specs.declared.refusals.Refusal.{Refusal}
use Rattle.iol_back.specs.Disk.{Disk}
use Rattle.iol_hold.specs.declared.slices.Slice.{Slice}
use Rattle.iol_cache.specs.Contents.{bytes_in_slot}
use Rattle.iol_kernel.specs.FileCalls.{IsBackedBy, Serves, with_slots}
use Rattle.iol_kernel.specs.KernelState.{KernelState, IsSound, machine_of, read_of}
use Rattle.iol_kernel.specs.Readings.{bytes_over, slot_read, slots_read}
use Rattle.iol_kernel.specs.Views.{state_view}
use Rattle.iol_kernel.proofs.State.Stay.{stays_here}

-- with the bytes that its files have, it is the kernel's own machine state
pub with_slots-own : (stored : List (List ℕ)) (h : KernelState)
    → with_slots (machine_of stored h).slots h ≡ machine_of stored h
unfolding with_slots read_of state_view
with_slots-own stored h = refl

-- domains do not depend on the bytes of files

pub live-with_slots : (slots : List (List ℕ)) (h : KernelState) (d : ℕ)
    → machine.is_live (with_slots slots h) d ≡ machine.is_live (machine_of [] h) d
unfolding with_slots machine.domain
live-with_slots slots h d = refl

pub descriptor-with_slots : (slots : List (List ℕ)) (h : KernelState) (d fd : ℕ)
    → machine.descriptor (with_slots slots h) d fd ≡ machine.descriptor (machine_of [] h) d fd
unfolding with_slots machine.domain
descriptor-with_slots slots h d fd = refl

pub open-with_slots : (slots : List (List ℕ)) (h : KernelState) (d : ℕ)
    → (machine.domain (with_slots slots h) d).fds ≡ (machine.domain (machine_of [] h) d).fds
unfolding with_slots machine.domain
open-with_slots slots h d = refl

pub fds-with_slots : (slots : List (List ℕ)) (h k : KernelState) (d : ℕ) (xs : List (Option Descriptor))
    → machine_of [] k ≡ fds.with_fds (machine_of [] h) d xs
    → with_slots slots k ≡ fds.with_fds (with_slots slots h) d xs
unfolding with_slots machine.with_domain machine.domain
fds-with_slots slots h k d xs is = ap (λ (s : State). record s { slots = slots }) is

pub content-with_slots : (slots : List (List ℕ)) (h : KernelState) (f : ℕ)
    → machine.content (with_slots slots h) f ≡ numbered_or slots f []
unfolding with_slots machine.content
content-with_slots slots h f = refl

-- the bytes of the file in a slot
pub content-machine_of : (stored : List (List ℕ)) (h : KernelState) (f : ℕ) → 0 < f → f ≤ MAX_FILES
    → machine.content (machine_of stored h) f ≡ bytes_in_slot h.store stored h.cache.files f
unfolding read_of state_view machine.content slots_read
content-machine_of stored h f some within =
    let slots : List (List ℕ) = slots_read (bytes_over stored h.store) h.cache.files in
    let at : numbered_or slots f [] ≡ get_or slots (f - 1) [] = grind (arith, nat_tests, some) in
    at ∙ get_or-map-range_with_len (slot_read (bytes_over stored h.store) h.cache.files) 1 MAX_FILES (f - 1) f []
    (omega (arith, some, within)) (omega (arith, some))

-- slots of `len` bytes each
unfoldable pub even : (slots len : ℕ) → List (List ℕ)
even slots len = replicate slots (replicate len 0)

pub length-even : (m len f : ℕ) → 0 < f → f ≤ m → length (numbered_or (even m len) f []) ≡ len
unfolding even
length-even m len f some within =
    let at : numbered_or (replicate m (replicate len 0)) f [] ≡ get_or (replicate m (replicate len 0)) (f - 1) [] =
    grind (arith, nat_tests, some) in
    let below : f - 1 < m = omega (arith, some, within) in
    ap length (at ∙ get_or-replicate m (f - 1) (replicate len 0) [] below) ∙ length-replicate len 0

pub length_content-even : (len : ℕ) (h : KernelState) (f : ℕ) → 0 < f → f ≤ MAX_FILES
    → length (machine.content (with_slots (even MAX_FILES len) h) f) ≡ len
length_content-even len h f some within = ap length (content-with_slots (even MAX_FILES len) h f)
    ∙ length-even MAX_FILES len f some within

at_own : {A : Type 0} (m : State → Meaning A) (disk : Disk) (h : KernelState) (ds : List (Domain (List Slice)))
    (r : Result A Refusal) → (let k : KernelState = record h { domains = ds } in let slots : List (List ℕ) =
    (machine_of disk.slots h).slots in
    Step (m (with_slots slots h)) (with_slots slots h) r (with_slots slots k)
    → Step (m (machine_of disk.slots h)) (machine_of disk.slots h) r (machine_of disk.slots k))
unfolding with_slots read_of state_view
at_own m disk h ds r step = step

-- At most descriptors change. The call is the machine's step if the bytes of files satisfy P: those of an honest
-- store do, and so do some bytes in any case.
pub serves_where : {A : Type 0} (P : List (List ℕ) → Type 0) (m : State → Meaning A) (disk : Disk) (h : KernelState)
    (ds : List (Domain (List Slice))) (r : Result A Refusal) (before : List (List ℕ))
    → (let k : KernelState = record h { domains = ds } in
    ((slots : List (List ℕ)) → P slots → Step (m (with_slots slots h)) (with_slots slots h) r (with_slots slots k))
    → (IsBackedBy disk h → P (machine_of disk.slots h).slots) → P before → IsSound k → Serves m disk h r disk k)
serves_where P m disk h ds r before steps own some sound = record {
  step = λ backed placed. at_own m disk h ds r (steps (machine_of disk.slots h).slots (own backed));
  backed = λ backed. record {
    honest = backed.honest;
    short = backed.short;
    mirrors =
        record { each = backed.mirrors.each };
  };
  beside = record { before = before; after = before; step = steps before some };
  honest = refl;
  sums = refl;
  sound = sound;
  stays = stays_here h.store;
}

-- a call that is refused for any bytes of files
pub serves_refused : {A : Type 0} (m : State → Meaning A) (disk : Disk) (h : KernelState) (x : Refusal)
    → ((slots : List (List ℕ)) → Step (m (with_slots slots h)) (with_slots slots h) (Err x) (with_slots slots h))
    → IsSound h → Serves m disk h (Err x) disk h
serves_refused m disk h x steps sound =
    serves_where (λ slots. Unit {0}) m disk h h.domains (Err x) [] (λ slots any. steps slots) (λ backed. tt) tt sound
