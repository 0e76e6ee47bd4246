-- Properties that do not depend on the bytes of files: access, and the values of aggregates.
use Rattle.std.proofs.Common.{◌≡◌, ◌∙◌, ℕ, List, [], refl, sym, ap}
use Rattle.iol_core.specs.Access.{HasAccess}
use Rattle.iol_core.specs.Run.{meaning, outcome}
use Rattle.iol_core.specs.State.{Domain, aggregate}
use Rattle.iol_core.specs.NumberedLists.{lookup}
use Rattle.iol_core.specs.Text.{Text}
use Rattle.iol_core.specs.Values.{ValuesStay}
use Rattle.iol_core.specs.declared.events.Event.{Event}
use Rattle.iol_core.specs.declared.events.Reply.{Reply}
use Rattle.iol_core.proofs.Access.{access_step}
use Rattle.iol_core.proofs.KeptAccess.{access_same}
use Rattle.iol_core.proofs.Lookups.{domain-same}
use Rattle.iol_core.proofs.Values.{values_step}
use Rattle.iol_kernel.specs.FileCalls.{with_slots, StepsBeside}
use Rattle.iol_kernel.specs.KernelState as held
use Rattle.iol_kernel.specs.KernelState.{KernelState, read_of}
use Rattle.iol_kernel.specs.Views.{state_view}

-- the fields other than the slots are the same over each store

pub domains-slots : (slots stored : List (List ℕ)) (h : KernelState)
    → (with_slots slots h).domains ≡ (held.machine_of stored h).domains
unfolding with_slots read_of state_view
domains-slots slots stored h = refl

pub pools-slots : (slots stored : List (List ℕ)) (h : KernelState)
    → (with_slots slots h).pools ≡ (held.machine_of stored h).pools
unfolding with_slots read_of state_view
pools-slots slots stored h = refl

pub files-slots : (slots stored : List (List ℕ)) (h : KernelState)
    → (with_slots slots h).files ≡ (held.machine_of stored h).files
unfolding with_slots read_of state_view
files-slots slots stored h = refl

-- the machine's state over a store is that with the slots of the store
pub with_slots-machine : (stored : List (List ℕ)) (h : KernelState)
    → with_slots (held.machine_of stored h).slots h ≡ held.machine_of stored h
unfolding with_slots read_of state_view
with_slots-machine stored h = refl

access_to : (slots stored : List (List ℕ)) (h : KernelState) → HasAccess (held.machine_of stored h)
    → HasAccess (with_slots slots h)
access_to slots stored h access =
    access_same (held.machine_of stored h) (with_slots slots h) access (domains-slots slots stored h)
    (pools-slots slots stored h) (files-slots slots stored h)

access_from : (slots stored : List (List ℕ)) (h : KernelState) → HasAccess (with_slots slots h)
    → HasAccess (held.machine_of stored h)
access_from slots stored h access =
    access_same (with_slots slots h) (held.machine_of stored h) access (sym (domains-slots slots stored h))
    (sym (pools-slots slots stored h)) (sym (files-slots slots stored h))

-- if domains may read all their bytes over one store, they may do so over each
pub access_over : (stored other : List (List ℕ)) (h : KernelState) → HasAccess (held.machine_of stored h)
    → HasAccess (held.machine_of other h)
access_over stored other h access = access_from [] other h (access_to [] stored h access)

aggregate-slots : (slots stored : List (List ℕ)) (h : KernelState) (d a : ℕ)
    → aggregate (with_slots slots h) d a ≡ aggregate (held.machine_of stored h) d a
aggregate-slots slots stored h d a =
    ap (λ (x : Domain Text). lookup x.aggs a)
    (domain-same (held.machine_of stored h) (with_slots slots h) d (domains-slots slots stored h))

-- after a step that is the machine's except for the bytes of files
module _ (old new : KernelState) (e : Event) (r : Reply) (stored after : List (List ℕ))
    (beside : StepsBeside (λ s. meaning s e) old (outcome r) new) where
  pub access_beside : HasAccess (held.machine_of stored old) → HasAccess (held.machine_of after new)
  access_beside access =
      access_from beside.after after new
      (access_step (with_slots beside.before old) (with_slots beside.after new) e r
      (access_to beside.before stored old access) beside.step)

  pub values_beside : ValuesStay (held.machine_of stored old) e (held.machine_of after new)
  values_beside = record {
    each = λ d a t is kept.
        sym (aggregate-slots beside.after after new d a)
        ∙ (values_step (with_slots beside.before old) (with_slots beside.after new) e r beside.step).each d a t
        (aggregate-slots beside.before stored old d a ∙ is) kept;
  }
