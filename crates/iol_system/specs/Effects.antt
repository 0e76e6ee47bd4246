-- The effect of an event on the state that the calls of a system work on, over a store: the source of all its promises.
use Rattle.std.specs.Prelude.{◌≡◌, ℕ, IsTrue, IsFalse}
use Rattle.iol_back.specs.Disk.{Disk, IfHonest}
use Rattle.iol_cache.specs.ReadResults.{FaultCounts}
use Rattle.iol_core.specs.Positions.{ArePlaced}
use Rattle.iol_core.specs.Run.{meaning, outcome, StepsTo}
use Rattle.iol_core.specs.Values.{ValuesStay}
use Rattle.iol_core.specs.SharingCalls.{is_sharing, LaysOut}
use Rattle.iol_core.specs.declared.events.Call.{Call}
use Rattle.iol_core.specs.declared.events.Event.{Event}
use Rattle.iol_core.specs.declared.events.Event.TheVariants as event
use Rattle.iol_core.specs.declared.events.Reply.{Reply}
use Rattle.iol_hold.specs.Moves.{Stays}
use Rattle.iol_kernel.specs.FileCalls.{IsBackedBy, StepsBeside}
use Rattle.iol_kernel.specs.Kernel.{state_of}
use Rattle.iol_kernel.specs.KernelState.{KernelState, layout_of, machine_of, IsSound}
use Rattle.iol_kernel.specs.declared.kernel.Kernel.{Kernel}
use Rattle.iol_system.specs.FileLengths.{ReportsEnd}
use Rattle.iol_system.specs.StoreCalls.{asks_store, makes_file, uses_cache, writes_store}
use Rattle.iol_system.specs.InPlace.{KeepsInPlace, SharesFile}
use Rattle.iol_system.specs.Late.{LeavesLate}
use Rattle.iol_system.specs.Machine.{system_of, tables_of}
use Rattle.iol_system.specs.PagesAndChunks.{Creates, Publishes, SamePages}
use Rattle.iol_system.specs.Sums.{Remembers}
use Rattle.iol_system.specs.Slices.{Divides}
use Rattle.iol_system.specs.Still.{is_still, keeps_store, only_looks, takes_out}
use Rattle.iol_system.specs.Room.{BytesFit, HasRoomFor, LacksRoomFor, IsDone, IsEarly, IsFault, IsMemory, IsNoRoom}
use Rattle.iol_system.specs.Room.{IsRefused}
use Rattle.iol_system.specs.WriteBack.{WritesBack}

-- The effect of an event. With a store that has the same bytes as the clean extents in memory, and positions within
-- files, it is the machine's step; and afterwards the store has them again. All other fields hold over any store.
pub record Does (disk : Disk) (old : KernelState) (e : Event) (r : Reply) (after : Disk) (new : KernelState) :
    Type 0 where
  pub step : IsBackedBy disk old → ArePlaced (machine_of disk.slots old)
      → StepsTo (machine_of disk.slots old) e r (machine_of after.slots new)
  pub backed : IsBackedBy disk old → IsBackedBy after new
  pub beside : StepsBeside (λ s. meaning s e) old (outcome r) new
  pub honest : after.honest ≡ disk.honest
  pub unasked : IsFalse (asks_store (tables_of old) e) → after ≡ disk
  pub faults : IsTrue (asks_store (tables_of old) e) → FaultCounts disk after (outcome r)
  pub slots : IfHonest disk (IsFalse (writes_store e) → after.slots ≡ disk.slots)
  pub asked : IsTrue (asks_store (tables_of old) e) → IsFault r → HasRoomFor (system_of old disk) e
  pub room : IsDone r → HasRoomFor (system_of old disk) e
  pub no_room : IsNoRoom r → LacksRoomFor (system_of old disk) e
  pub memory : IsMemory r → BytesFit (system_of old disk) e
  pub early : IsEarly r → (new ≡ old) × (after ≡ disk)
  pub refused : IsFalse (uses_cache (tables_of old) e) → IsRefused r → new ≡ old
  pub uncached : IsFalse (uses_cache (tables_of old) e) → IsFalse (makes_file e) → new.cache ≡ old.cache
  pub late : LeavesLate (system_of old disk) e r (system_of new after)
  pub looks : IsTrue (only_looks e) → (new ≡ old) × (after ≡ disk)
  pub shares : IsTrue (is_sharing (tables_of old) e) → LaysOut (layout_of old) e r (layout_of new)
  pub pages : IsTrue (is_sharing (tables_of old) e) → SamePages old.store new.store
  pub still : IsTrue (is_still e) → LaysOut (layout_of old) e r (layout_of new)
  pub in_place : KeepsInPlace (system_of old disk) e new
  pub held : ValuesStay (layout_of old) e (layout_of new)
  pub places : IsTrue (takes_out (tables_of old) e) → IsDone r → layout_of new ≡ (meaning (layout_of old) e).after
  pub store : IsTrue (keeps_store e) → new.store ≡ old.store
  pub shares_file : IsDone r → SharesFile (system_of old disk) e r new
  pub slices : IsDone r → Divides old e new
  pub publishes : IsDone r → Publishes old e new
  pub creates : Creates old e r new
  pub ends : ReportsEnd (system_of old disk) e r
  pub sums : Remembers old e r new
  pub written_back : WritesBack disk old e r after new
  pub sound : IsSound new
  pub stays : Stays old.store new.store

-- the effect of a call of a domain that does not ask the store, for any content of the store
abbrev pub DoesAlone : (by : ℕ) → Call → Kernel → Reply → Kernel → Type 0
DoesAlone by call old r new = (disk : Disk) → Does disk (state_of old) (event.Call by call) r disk (state_of new)

-- the effect of a call of a domain on a kernel, over a store with this content
abbrev pub DoesCall : {B : Type 0} → (by : ℕ) → Call → (disk : B → Disk) → (backing after : B) → Kernel → Reply → Kernel
    → Type 0
DoesCall by call disk backing after old r new =
    Does (disk backing) (state_of old) (event.Call by call) r (disk after) (state_of new)
