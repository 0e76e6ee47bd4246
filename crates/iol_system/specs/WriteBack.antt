-- The content of the store, and the extents in memory, after events that write back or drop.
use Rattle.std.specs.Prelude.{◌≡◌, ◌⊎◌, ℕ, ◌+◌, ◌-◌, length, Option, None, Some, Result, ⊤, ◌≢◌}
use Rattle.iol_back.specs.Disk.{Disk, content}
use Rattle.iol_core.specs.State as machine
use Rattle.iol_core.specs.State.{descriptor}
use Rattle.iol_core.specs.declared.descriptors.Descriptor.{Descriptor}
use Rattle.iol_core.specs.declared.descriptors.Descriptor.TheVariants as on
use Rattle.iol_core.specs.declared.events.Call.TheVariants as call
use Rattle.iol_core.specs.declared.events.Event.{Event}
use Rattle.iol_core.specs.declared.events.Event.TheVariants as event
use Rattle.iol_core.specs.declared.events.Reply.{Reply}
use Rattle.iol_core.specs.declared.events.Reply.TheVariants as reply
use Rattle.iol_core.specs.declared.refusals.Refusal.{Refusal}
use Rattle.iol_extent.specs.Extents.{Extent, dirty_in}
use Rattle.iol_cache.specs.CacheState.{Cached, dirty_in_all, extents_in}
use Rattle.iol_cache.specs.Evictions.{AllDirty, EvictsPools}
use Rattle.iol_cache.specs.WriteBack.{AllClean}
use Rattle.iol_extent.specs.Extents.{cleaned_at}
use Rattle.iol_kernel.specs.FileCalls.{IsBackedBy, holding_of}
use Rattle.iol_kernel.specs.KernelState.{KernelState}
use Rattle.iol_kernel.specs.WriteBack.{FlushesOne, SyncsFile}
use Rattle.iol_system.specs.Machine.{SystemState, machine_of, system_of, tables_of}
use Rattle.iol_system.specs.Replies.{reported}
use Rattle.iol_system.specs.Room.{IsDone}

-- no extent of the file that a descriptor is open on is dirty
abbrev pub IsCleanFile : Option Descriptor → KernelState → Type 0
IsCleanFile (Some (on.File f at mode)) h = dirty_in (extents_in h.cache.files f) ≡ None
IsCleanFile o h = ⊤

-- the store has exactly the machine's file in the file's slot
abbrev pub IsStoredFile : Option Descriptor → SystemState → Type 0
IsStoredFile (Some (on.File f at mode)) s = content s.disk.slots f ≡ machine.content (machine_of s) f
IsStoredFile o s = ⊤

-- after an `fsync` no extent of its file is dirty
abbrev pub IsSynced : KernelState → Event → KernelState → Type 0
IsSynced old (event.Call by (call.Fsync fd)) new = IsCleanFile (descriptor (tables_of old) by fd) new
IsSynced old e new = ⊤

-- after an `fsync` the store has exactly the machine's file in its slot
abbrev pub IsKept : KernelState → Event → SystemState → Type 0
IsKept old (event.Call by (call.Fsync fd)) new = IsStoredFile (descriptor (tables_of old) by fd) new
IsKept old e new = ⊤

-- The dirty extent of least file and offset is clean, and no other extent changed: one dirty extent fewer.
pub record CleansFirst (old new : Cached) : Type 0 where
  pub file : ℕ
  pub extent : Extent
  pub least : AllClean (file - 1) old
  pub first : dirty_in (extents_in old.files file) ≡ Some extent
  pub cleaned : extents_in new.files file ≡ cleaned_at (extents_in old.files file) extent.at
  pub others : (f : ℕ) → f ≢ file → extents_in new.files f ≡ extents_in old.files f
  pub fewer : dirty_in_all new.files + 1 ≡ dirty_in_all old.files

-- a `flush` cleans the dirty extent of least file and offset; or nothing was dirty, and it changes nothing
abbrev pub IsFlushed : KernelState → Event → KernelState → Type 0
IsFlushed old event.Flush new = CleansFirst old.cache new.cache
    ⊎ (AllClean (length old.cache.files) old.cache × (new ≡ old))
IsFlushed old e new = ⊤

-- The clean extents of all files were evicted, those of each pool in their order; no clean extent is left. Nothing else
-- changed.
pub record DropsClean (old new : KernelState) : Type 0 where
  pub none : (f : ℕ) → AllDirty (extents_in new.cache.files f)
  pub victims : EvictsPools (length old.cache.orders) (holding_of old) (holding_of new)
  pub same : new ≡ record old { store = new.store; cache = new.cache }

-- `drop_clean` evicts the clean extents of all files
abbrev pub IsDropped : KernelState → Event → KernelState → Type 0
IsDropped old event.DropClean new = DropsClean old new
IsDropped old e new = ⊤

-- The extents that an `fsync` wrote back, whatever the reply: the first dirty extents of its file, up to the one at
-- which the store failed.
pub record SyncsAs (f : ℕ) (disk : Disk) (old : KernelState) (r : Reply) (after : Disk) (new : KernelState) :
    Type 0 where
  pub answer : Result (Unit {0}) Refusal
  pub is : r ≡ reported (λ u. reply.Done) answer
  pub syncs : SyncsFile f disk old answer after new

-- the extents that an `fsync` wrote back, if its descriptor is open on a file; for anything else this says nothing
abbrev pub SyncsOn : Option Descriptor → Disk → KernelState → Reply → Disk → KernelState → Type 0
SyncsOn (Some (on.File f at mode)) disk old r after new = SyncsAs f disk old r after new
SyncsOn o disk old r after new = ⊤

-- The extent that a `flush` wrote back, or the file of the dirty extent at which the store failed.
pub record FlushesAs (disk : Disk) (old : KernelState) (r : Reply) (after : Disk) (new : KernelState) : Type 0 where
  pub answer : Result (Unit {0}) Refusal
  pub is : r ≡ reported (λ u. reply.Done) answer
  pub flushes : FlushesOne disk old answer after new

-- The extents that an `fsync` or a `flush` wrote back, refused or not.
abbrev pub StoresBack : Disk → KernelState → Event → Reply → Disk → KernelState → Type 0
StoresBack disk old (event.Call by (call.Fsync fd)) r after new =
    SyncsOn (descriptor (tables_of old) by fd) disk old r after new
StoresBack disk old event.Flush r after new = FlushesAs disk old r after new
StoresBack disk old e r after new = ⊤

-- The effect of writing back and dropping in one event: the extents that are clean and stored if it succeeds, and those
-- that were written whatever the reply.
pub record WritesBack (disk : Disk) (old : KernelState) (e : Event) (r : Reply) (after : Disk) (new : KernelState) :
    Type 0 where
  pub synced : IsDone r → IsSynced old e new
  pub kept : IsBackedBy after new → IsDone r → IsKept old e (system_of new after)
  pub flushed : IsDone r → IsFlushed old e new
  pub dropped : IsDropped old e new
  pub stores_back : StoresBack disk old e r after new
