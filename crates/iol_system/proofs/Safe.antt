-- A step of a safe system keeps its promises, by the kernel's contract and by laws of the copying machine.
use Rattle.std.proofs.Common.{◌≡◌, ◌∙◌, ◌≤◌, true, false, ℕ, List, [], length, refl, ap, sym, subst}
use Rattle.std.proofs.lemmas.Bool.{true≢false}
use Rattle.iol_back.specs.Disk.{Disk, IfHonest}
use Rattle.iol_core.specs.State.{State, new_state}
use Rattle.iol_core.specs.Access.{HasAccess}
use Rattle.iol_core.specs.Positions.{ArePlaced}
use Rattle.iol_core.proofs.Positions.{placed_step, placed_new}
use Rattle.iol_core.specs.Run.{StepsTo}
use Rattle.iol_core.specs.declared.events.Call.{Call}
use Rattle.iol_core.specs.declared.events.Call.TheVariants as call
use Rattle.iol_core.specs.declared.events.Event.{Event}
use Rattle.iol_core.specs.declared.events.Event.TheVariants as event
use Rattle.iol_core.specs.declared.limits.TheConstants.{MAX_FILES}
use Rattle.iol_core.specs.declared.events.Reply.{Reply}
use Rattle.iol_core.proofs.Access.{access_new}
use Rattle.iol_kernel.specs.FileCalls.{IsBackedBy}
use Rattle.iol_kernel.specs.KernelState.{KernelState, IsSound}
use Rattle.iol_system.specs.Machine.{SystemState, machine_of, tables_of, system_of}
use Rattle.iol_system.specs.StoreCalls.{asks_store, uses_cache}
use Rattle.iol_system.specs.Effects.{Does}
use Rattle.iol_system.specs.Promises.{Promises}
use Rattle.iol_system.specs.Room.{IsRefused}
use Rattle.iol_system.specs.Safe.{IsSafe}
use Rattle.iol_kernel.specs.Readings.{slots_of}
use Rattle.iol_kernel.specs.KernelState as held
use Rattle.iol_system.proofs.Beside.{access_beside, values_beside, files-slots}
use Rattle.iol_system.proofs.Empty.{slots-enough, new_backed}
use Rattle.iol_system.proofs.Hopeless.{extents_met}

pub new_safe : (s : SystemState) (slots : List (List ℕ)) → IsSound s.kernel → machine_of s ≡ new_state slots
    → MAX_FILES ≤ length slots → IfHonest s.disk (IsBackedBy s.disk s.kernel) → IsSafe s
new_safe s slots sound new enough backed = record {
  sound = sound;
  access = subst HasAccess (sym new) (access_new slots);
  backed = backed;
  placed = λ honest. subst ArePlaced (sym new) (placed_new slots enough);
}

-- an empty kernel over a store is safe
pub started_safe : (h : KernelState) (disk : Disk) → IsSound h
    → ((stored : List (List ℕ)) → held.machine_of stored h ≡ new_state (slots_of stored)) → IsSafe (system_of h disk)
started_safe h disk sound new =
    new_safe (system_of h disk) (slots_of disk.slots) sound (new disk.slots) (slots-enough disk.slots)
    (λ honest. new_backed h disk honest sound (sym (files-slots [] [] h)
    ∙ (files-slots [] [] h ∙ ap (λ (s : State). s.files) (new []))))

-- an event that does not work on the cache does not ask the store
asks_call : (s : State) (by : ℕ) (c : Call) → uses_cache s (event.Call by c) ≡ false
    → asks_store s (event.Call by c) ≡ false
asks_call s by (call.IolRead fd n) unused = unused
asks_call s by (call.Read fd n) unused = unused
asks_call s by (call.Fsync fd) unused = absurd (true≢false unused)
asks_call s by c unused = refl

asks_uses : (s : State) (e : Event) → uses_cache s e ≡ false → asks_store s e ≡ false
asks_uses s (event.Call by c) unused = asks_call s by c unused
asks_uses s event.Flush unused = absurd (true≢false unused)
asks_uses s e unused = refl

-- the promises of a step, from the kernel's effect and from laws of the copying machine
module _ (old new : SystemState) (e : Event) (r : Reply) (safe : IsSafe old)
    (does : Does old.disk old.kernel e r new.disk new.kernel) where
  stepped : IfHonest old.disk (StepsTo (machine_of old) e r (machine_of new))
  stepped honest = does.step (safe.backed honest) (safe.placed honest)

  pub promises_kept : Promises old e r new
  promises_kept = record {
    step = stepped;
    beside = does.beside;
    honest = does.honest;
    unasked = does.unasked;
    faults = does.faults;
    slots = does.slots;
    asked = does.asked;
    room = does.room;
    no_room = does.no_room;
    memory = does.memory;
    without_room = extents_met old new e r does.late does.refused;
    early =
        λ is. (let same = does.early is in ap (λ (d : Disk). system_of new.kernel d) same.1
        ∙ ap (λ (h : KernelState). system_of h old.disk) same.0);
    uncached = does.uncached;
    refused = λ unused was. ap (λ (d : Disk). system_of new.kernel d) (untouched unused was)
        ∙ ap (λ (h : KernelState). system_of h old.disk) (does.refused unused was);
    late = does.late;
    looks =
        λ is. (let same = does.looks is in ap (λ (d : Disk). system_of new.kernel d) same.1
        ∙ ap (λ (h : KernelState). system_of h old.disk) same.0);
    shares = does.shares;
    pages = does.pages;
    still = does.still;
    places = does.places;
    held = does.held;
    store = does.store;
    in_place = does.in_place;
    shares_file = does.shares_file;
    slices = does.slices;
    publishes = does.publishes;
    creates = does.creates;
    ends = does.ends;
    sums = does.sums;
    synced = does.written_back.synced;
    kept = λ honest. does.written_back.kept (does.backed (safe.backed honest));
    flushed = does.written_back.flushed;
    dropped = does.written_back.dropped;
    stores_back = does.written_back.stores_back;
    safe = record {
      sound = does.sound;
      access = access_beside old.kernel new.kernel e r old.disk.slots new.disk.slots does.beside safe.access;
      backed = λ honest. does.backed (safe.backed (sym does.honest ∙ honest));
      placed = λ honest. (let was : old.disk.honest ≡ true = sym does.honest ∙ honest in
          placed_step (machine_of old) (machine_of new) e r (safe.placed was) (stepped was));
    };
    stays = does.stays;
    values = values_beside old.kernel new.kernel e r old.disk.slots new.disk.slots does.beside;
  }
    where
      untouched : uses_cache (tables_of old.kernel) e ≡ false → IsRefused r → new.disk ≡ old.disk
      untouched unused was = does.unasked (asks_uses (tables_of old.kernel) e unused)
