-- The promises of one event, and of a run of events: a chain of such steps over the whole state of a system.
--
-- The copying machine's own run (`iol_core`, `Run`) says which replies are returned, and leaves open when there is room
-- and at which places bytes are. A chain has all promises of `System::step` at each link, so every property of a step
-- holds in a run.
use Rattle.std.specs.Prelude.{◌≡◌, ◌⊎◌, List, [], ◌∷◌, IsTrue, IsFalse}
use Rattle.iol_back.specs.Disk.{IfHonest}
use Rattle.iol_cache.specs.KeptCover.{SameExtents}
use Rattle.iol_cache.specs.ReadResults.{FaultCounts}
use Rattle.iol_core.specs.Run.{meaning, outcome, StepsTo}
use Rattle.iol_core.specs.SharingCalls.{is_sharing, LaysOut}
use Rattle.iol_core.specs.Values.{ValuesStay}
use Rattle.iol_core.specs.declared.events.Event.{Event}
use Rattle.iol_core.specs.declared.events.Reply.{Reply}
use Rattle.iol_hold.specs.Moves.{Stays}
use Rattle.iol_kernel.specs.FileCalls.{StepsBeside}
use Rattle.iol_kernel.specs.KernelState.{layout_of}
use Rattle.iol_system.specs.StoreCalls.{asks_store, makes_file, uses_cache, writes_store}
use Rattle.iol_system.specs.FileLengths.{ReportsEnd}
use Rattle.iol_system.specs.InPlace.{KeepsInPlace, SharesFile}
use Rattle.iol_system.specs.Late.{LeavesLate}
use Rattle.iol_system.specs.Machine.{SystemState, machine_of, tables_of}
use Rattle.iol_system.specs.PagesAndChunks.{Creates, Publishes, SamePages}
use Rattle.iol_system.specs.Sums.{Remembers}
use Rattle.iol_system.specs.Room.{BytesFit, HasRoomFor, LacksRoomFor, IsDone, IsEarly, IsFault, IsMemory, IsNoRoom}
use Rattle.iol_system.specs.Room.{IsRefused}
use Rattle.iol_system.specs.Safe.{IsSafe}
use Rattle.iol_system.specs.Slices.{Divides}
use Rattle.iol_system.specs.Still.{is_still, keeps_store, only_looks, takes_out}
use Rattle.iol_system.specs.WriteBack.{IsDropped, IsFlushed, IsKept, IsSynced, StoresBack}

-- The promises of one event, from old to new, with this reply.
pub record Promises (old : SystemState) (e : Event) (r : Reply) (new : SystemState) : Type 0 where
  -- over an honest store it is the copying machine's step
  pub step : IfHonest old.disk (StepsTo (machine_of old) e r (machine_of new))
  -- over any store it is that step except for the bytes of files
  pub beside : StepsBeside (λ s. meaning s e) old.kernel (outcome r) new.kernel
  -- the store is honest afterwards exactly if it was before
  pub honest : new.disk.honest ≡ old.disk.honest
  -- only calls on files ask the store
  pub unasked : IsFalse (asks_store (tables_of old.kernel) e) → new.disk ≡ old.disk
  -- if Fault is returned, one more failure of the store is counted, up to the maximum, and otherwise none
  pub faults : IsTrue (asks_store (tables_of old.kernel) e) → FaultCounts old.disk new.disk (outcome r)
  -- the content of an honest store changes only if something is written back
  pub slots : IfHonest old.disk (IsFalse (writes_store e) → new.disk.slots ≡ old.disk.slots)
  -- Fault is returned only if there is room
  pub asked : IsTrue (asks_store (tables_of old.kernel) e) → IsFault r → HasRoomFor old e
  -- success is returned only if there is room
  pub room : IsDone r → HasRoomFor old e
  -- NoRoom is returned only if there is no room
  pub no_room : IsNoRoom r → LacksRoomFor old e
  -- Memory is returned only if the new bytes of the event fit their pool: a full pool is found before memory is
  -- requested
  pub memory : IsMemory r → BytesFit old e
  -- if there is no room, every refusal leaves the extents of every file unchanged
  pub without_room : IsRefused r → HasRoomFor old e ⊎ SameExtents old.kernel.cache new.kernel.cache
  -- a refusal other than NoRoom, Memory and Fault changes nothing
  pub early : IsEarly r → new ≡ old
  -- a refusal of an event that needs no pages and does not work on the extents of files in memory changes nothing
  -- either
  pub refused : IsFalse (uses_cache (tables_of old.kernel) e) → IsRefused r → new ≡ old
  -- an event that does not work on the extents of files in memory leaves them unchanged, except that a new file has
  -- none
  pub uncached : IsFalse (uses_cache (tables_of old.kernel) e) → IsFalse (makes_file e)
      → new.kernel.cache ≡ old.kernel.cache
  -- the effect of a late refusal: clean parts of files evicted, in the order of eviction, hits counted, and pages with
  -- an incremented generation that were filled and are free again
  pub late : LeavesLate old e r new
  -- `show` and `length` change nothing
  pub looks : IsTrue (only_looks e) → new ≡ old
  -- the bytes that a sharing call passes on keep their places
  pub shares : IsTrue (is_sharing (tables_of old.kernel) e) → LaysOut (layout_of old.kernel) e r (layout_of new.kernel)
  -- a sharing call changes no page and no pool
  pub pages : IsTrue (is_sharing (tables_of old.kernel) e) → SamePages old.kernel.store new.kernel.store
  -- the bytes that an event leaves keep their places, if the event is not about bytes
  pub still : IsTrue (is_still e) → LaysOut (layout_of old.kernel) e r (layout_of new.kernel)
  -- bytes of files in memory keep their places, except for those that are written and clean ones that are evicted
  pub in_place : KeepsInPlace old e new.kernel
  -- the remaining bytes keep their places when bytes are sent or copied from a queue, or a position moves
  pub places : IsTrue (takes_out (tables_of old.kernel) e) → IsDone r → layout_of new.kernel
      ≡ (meaning (layout_of old.kernel) e).after
  -- each byte of an aggregate keeps its place until a call gives the aggregate up
  pub held : ValuesStay (layout_of old.kernel) e (layout_of new.kernel)
  -- looking, moving a position and writing back change no page, no count and no pool
  pub store : IsTrue (keeps_store e) → new.kernel.store ≡ old.kernel.store
  -- calls on files share the bytes in memory, and the bytes read or written by copying are in memory afterwards, too
  pub shares_file : IsDone r → SharesFile old e r new.kernel
  -- New bytes of an aggregate or a queue are in at most one slice per page. Reads of queues and writes of aggregates to
  -- them keep slices whole, except for the last.
  pub slices : IsDone r → Divides old.kernel e new.kernel
  -- Buffers are made on the lowest free pages, whose generation is incremented, and no more extents are evicted for new
  -- bytes than needed. An open pool keeps its chunks, a closed one all of them or none.
  pub publishes : IsDone r → Publishes old.kernel e new.kernel
  -- A new pool has the lowest free chunks. Admitting a domain changes only the pool's list, and a new file has no
  -- extent in memory.
  pub creates : Creates old.kernel e r new.kernel
  -- over any store `length` returns the end of a read, `seek` sets a position of at most that end, and `file_new`
  -- accepts no slot with too many bytes
  pub ends : ReportsEnd old e r
  -- sending remembers the sums of the slices sent, and no other event changes the remembered sums
  pub sums : Remembers old.kernel e r new.kernel
  -- after `fsync` no extent of its file is dirty
  pub synced : IsDone r → IsSynced old.kernel e new.kernel
  -- and an honest store has exactly that file
  pub kept : IfHonest old.disk (IsDone r → IsKept old.kernel e new)
  -- `flush` leaves one dirty extent fewer, or there was no dirty extent
  pub flushed : IsDone r → IsFlushed old.kernel e new.kernel
  -- `drop_clean` leaves no clean extent
  pub dropped : IsDropped old.kernel e new.kernel
  -- `fsync` and `flush` wrote back exactly the dirty extents that they name, refused or not
  pub stores_back : StoresBack old.disk old.kernel e r new.disk new.kernel
  -- new is safe
  pub safe : IsSafe new
  -- live buffers keep their bytes, at the same addresses, and their pools, and no identity is used twice
  pub stays : Stays old.kernel.store new.kernel.store
  -- aggregates keep their values
  pub values : ValuesStay (machine_of old) e (machine_of new)

-- From old, these events returned these replies, one after another, and the run ends in new.
abbrev pub Chain : SystemState → List Event → List Reply → SystemState → Type 0
Chain old [] [] new = new ≡ old
Chain old (e ∷ es) (r ∷ rs) new = (mid : SystemState) × Promises old e r mid × Chain mid es rs new
Chain old [] (r ∷ rs) new = ⊥
Chain old (e ∷ es) [] new = ⊥
