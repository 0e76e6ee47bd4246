-- Calls that leave the cache of files unchanged: over each store they have the effect that `Serves` states, and leave
-- the store unchanged.
use Rattle.std.proofs.Common.{◌≡◌, ℕ, List, refl, sym, subst}
use Rattle.std.specs.Prelude.{Result}
use Rattle.iol_core.specs.State.{State}
use Rattle.iol_core.specs.Meaning.{Meaning, Step}
use Rattle.iol_core.specs.declared.refusals.Refusal.{Refusal}
use Rattle.iol_back.specs.Disk.{Disk}
use Rattle.iol_hold.specs.Moves.{Covers, Stays}
use Rattle.iol_cache.specs.CacheState.{Cached, held}
use Rattle.iol_cache.specs.Contents.{Mirrors}
use Rattle.iol_cache.specs.ReadResults.{IsBacked}
use Rattle.iol_cache.proofs.Extents.OtherCalls.{mirrors_stay}
use Rattle.iol_kernel.specs.FileCalls.{IsBackedBy, Serves, StepsBeside, with_slots}
use Rattle.iol_kernel.specs.Calls.{CarriesOut, KeepsPlaces, Steps}
use Rattle.iol_kernel.specs.KernelState.{KernelState, IsSound, machine_of, read_of}
use Rattle.iol_kernel.specs.Views.{state_view}
use Rattle.iol_kernel.proofs.State.Refinement.{carried_machine}
use Rattle.iol_kernel.proofs.FileCalls.FileNames.{cache_sound}

-- with the bytes of files that a state has, it is that state
pub with_slots-same : (h : KernelState) (stored : List (List ℕ))
    → with_slots (machine_of stored h).slots h ≡ machine_of stored h
unfolding with_slots read_of state_view
with_slots-same h stored = refl

-- a step over one store is a step for some bytes of files
pub steps_beside : {A : Type 0} (m : State → Meaning A) (old new : KernelState) (r : Result A Refusal)
    (before after : List (List ℕ)) → Step (m (machine_of before old)) (machine_of before old) r (machine_of after new)
    → StepsBeside m old r new
steps_beside m old new r before after step = record {
  before = (machine_of before old).slots;
  after = (machine_of after new).slots;
  step =
      subst (λ (s : State). Step (m s) s r (with_slots (machine_of after new).slots new))
      (sym (with_slots-same old before))
      (subst (λ (s : State). Step (m (machine_of before old)) (machine_of before old) r s)
      (sym (with_slots-same new after)) step);
}

-- live buffers are unchanged, so the store still has the same bytes under clean extents
pub backed_stays : (disk : Disk) (old new : KernelState) → IsSound old → IsSound new → new.cache ≡ old.cache
    → Stays old.store new.store → IsBackedBy disk old → IsBackedBy disk new
backed_stays disk old new sound after same stays backed =
    let covers : Covers new.store (held old.cache.files) =
    subst (λ (c : Cached). Covers new.store (held c.files)) same (cache_sound new after).covered in
    let mirrors : Mirrors new.store disk.slots old.cache.files =
    mirrors_stay disk.slots old.cache.files (cache_sound old sound).files stays covers backed.mirrors in
    subst (λ (c : Cached). IsBacked disk (record { store = new.store; cache = c })) (sym same)
    (record { honest = backed.honest; short = backed.short; mirrors = mirrors })

pub still_serves : {A : Type 0} (m : State → Meaning A) (old new : KernelState) (r : Result A Refusal) → IsSound old
    → IsSound new → Steps m old r new → new.cache ≡ old.cache → new.sums ≡ old.sums → Stays old.store new.store
    → (disk : Disk) → Serves m disk old r disk new
still_serves m old new r sound after steps cache sums stays disk = record {
  step = λ backed placed. steps disk.slots;
  backed = backed_stays disk old new sound after cache stays;
  beside = steps_beside m old new r disk.slots disk.slots (steps disk.slots);
  honest = refl;
  sums = sums;
  sound = after;
  stays = stays;
}

pub carried_serves : {A : Type 0} (m : State → Meaning A) (old new : KernelState) (r : Result A Refusal) → IsSound old
    → CarriesOut m old r new → (disk : Disk) → Serves m disk old r disk new
carried_serves m old new r sound c =
    still_serves m old new r sound c.sound (λ stored. carried_machine m old new r stored c) c.cache c.sums c.stays

pub kept_serves : {A : Type 0} (m : State → Meaning A) (old new : KernelState) (r : Result A Refusal) → IsSound old
    → KeepsPlaces m old r new → (disk : Disk) → Serves m disk old r disk new
kept_serves m old new r sound k = still_serves m old new r sound k.sound k.step k.cache k.sums k.stays

pub ruleset serving_rules = (carried_serves, kept_serves)
