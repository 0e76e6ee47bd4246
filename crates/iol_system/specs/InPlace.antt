-- The bytes of files that keep their places in an event, and the bytes that calls on files share.
use Rattle.std.specs.Prelude.{◌≡◌, ◌⊎◌, ℕ, ◌+◌, ◌<◌, ◌≤◌, false, List, length, Option, Some, ⊤, IsFalse}
use Rattle.iol_core.specs.State.{descriptor}
use Rattle.iol_core.specs.declared.descriptors.Mode.{Mode}
use Rattle.iol_core.specs.declared.descriptors.Descriptor.{Descriptor}
use Rattle.iol_core.specs.declared.descriptors.Descriptor.TheVariants as on
use Rattle.iol_core.specs.declared.events.Call.TheVariants as call
use Rattle.iol_core.specs.declared.events.Event.{Event}
use Rattle.iol_core.specs.declared.events.Event.TheVariants as event
use Rattle.iol_core.specs.declared.events.Reply.{Reply}
use Rattle.iol_core.specs.declared.events.Reply.TheVariants as reply
use Rattle.iol_arena.specs.State.{pages_for}
use Rattle.iol_extent.specs.Extents.{Cell, cover}
use Rattle.iol_hold.specs.Places.{byte_len}
use Rattle.iol_hold.specs.Releases.{FreesOnly}
use Rattle.iol_hold.specs.StoreState.{Stored}
use Rattle.iol_hold.specs.declared.slices.Slice.{Slice}
use Rattle.iol_cache.specs.CacheState.{extents_in, file_in}
use Rattle.iol_cache.specs.Composition.{copied_pages}
use Rattle.iol_cache.specs.Overwrites.{LiesDirty, WritesFile}
use Rattle.iol_kernel.specs.FileCalls.{holding_of}
use Rattle.iol_kernel.specs.FileReads.{GivesCopy, GivesRead, file_read, held_by}
use Rattle.iol_kernel.specs.KeptCover.{LacksPages, LacksPagesToRead}
use Rattle.iol_kernel.specs.KernelState.{KernelState, slices_in}
use Rattle.iol_kernel.specs.Room.{AfterRoom}
use Rattle.iol_kernel.specs.FileWrites.{LaysOver, OnlyMoves, pool_of_file}
use Rattle.iol_system.specs.Machine.{SystemState, tables_of}
use Rattle.iol_system.specs.Wants.{Wants, for_arrived, for_made, for_written}

-- byte i of file f is one of n from the position on at which a descriptor is open
abbrev pub IsInRange : Option Descriptor → (n f i : ℕ) → Type 0
IsInRange (Some (on.File g at mode)) n f i = (f ≡ g) × (at ≤ i) × (i < at + n)
IsInRange o n f i = ⊥

-- the event writes byte i of file f
abbrev pub IsWritten : KernelState → Event → (f i : ℕ) → Type 0
IsWritten old (event.Call by (call.IolWrite fd a)) f i =
    IsInRange (descriptor (tables_of old) by fd) (byte_len (slices_in old.domains by a)) f i
IsWritten old (event.Call by (call.Write fd bytes)) f i =
    IsInRange (descriptor (tables_of old) by fd) (length bytes) f i
IsWritten old e f i = ⊥

-- new bytes in a pool need more pages there than are free
abbrev pub WantsMore : KernelState → Wants → (p : ℕ) → Type 0
WantsMore h w p = (p ≡ w.pool) × LacksPages h p (pages_for w.count)

-- a read of a file needs more pages of the file's pool than are free, for the bytes that are not in memory
abbrev pub ReadWantsMore : SystemState → Option Descriptor → (n p : ℕ) → Type 0
ReadWantsMore s (Some (on.File f at mode)) n p = (p ≡ pool_of_file s.kernel f)
    × LacksPagesToRead f at n s.disk (holding_of s.kernel)
ReadWantsMore s o n p = ⊥

-- a write of slices to a file needs more pages of the file's pool than are free, to copy the slices of other pools
abbrev pub WriteWantsMore : KernelState → Option Descriptor → List Slice → (p : ℕ) → Type 0
WriteWantsMore h (Some (on.File f at mode)) xs p = (p ≡ pool_of_file h f) × LacksPages h p (copied_pages p xs)
WriteWantsMore h o xs p = ⊥

-- the event may evict clean bytes of files of pool p: it drops all of them, or needs more pages of the pool than are
-- free
abbrev pub MayLetGo : SystemState → Event → (p : ℕ) → Type 0
MayLetGo s (event.Call by (call.AggMake bytes)) p = WantsMore s.kernel (for_made s.kernel by bytes) p
MayLetGo s (event.Call by (call.IolRead fd n)) p = ReadWantsMore s (held_by (tables_of s.kernel) by fd) n p
MayLetGo s (event.Call by (call.IolWrite fd a)) p =
    WriteWantsMore s.kernel (descriptor (tables_of s.kernel) by fd) (slices_in s.kernel.domains by a) p
MayLetGo s (event.Call by (call.Read fd n)) p = ReadWantsMore s (held_by (tables_of s.kernel) by fd) n p
MayLetGo s (event.Call by (call.Write fd bytes)) p = WantsMore s.kernel (for_written s.kernel by fd bytes) p
MayLetGo s (event.Arrive c bytes) p = WantsMore s.kernel (for_arrived s.kernel c bytes) p
MayLetGo s event.DropClean p = ⊤
MayLetGo s e p = ⊥

-- the cell over a byte is unchanged, or it is clean now
abbrev pub IsThereOrClean : Cell → Option Cell → Type 0
IsThereOrClean c o = (o ≡ Some c) ⊎ (o ≡ Some (record { place = c.place; dirty = false }))

-- The cell over a byte is unchanged, dirty or clean; if dirty bytes are written back, it may be clean now.
abbrev pub LiesStill : Event → Cell → Option Cell → Type 0
LiesStill (event.Call by (call.Fsync fd)) c o = IsThereOrClean c o
LiesStill event.Flush c o = IsThereOrClean c o
LiesStill e c o = o ≡ Some c

-- Each byte of a file that is in memory keeps its place. Or the event writes it; or it was clean, and the event may
-- evict it.
pub record KeepsInPlace (old : SystemState) (e : Event) (new : KernelState) : Type 0 where
  pub each : (f i : ℕ) (c : Cell) → cover (extents_in old.kernel.cache.files f) i ≡ Some c
      → LiesStill e c (cover (extents_in new.cache.files f) i)
      ⊎ (IsWritten old.kernel e f i ⊎ (IsFalse c.dirty × MayLetGo old e (file_in old.kernel.cache.files f).pool))

-- Only pages, extents of files in memory and the domains' tables changed: pipes, connections, remembered sums and the
-- list of files are unchanged.
abbrev pub SameElsewhere : (old new : KernelState) → Type 0
SameElsewhere old new = new ≡ record old { store = new.store; cache = new.cache; domains = new.domains }

-- A read of a file by reference returns bytes that were in memory at the same places, and the others at their places in
-- new extents. In the tables, the domain has one more aggregate, and the descriptor's position moved.
pub record ReadsShared (by fd n f at : ℕ) (mode : Mode) (old : SystemState) (new : KernelState) : Type 0 where
  pub gives : GivesRead (file_read by fd f at mode n) old.disk old.kernel new
  pub rest : SameElsewhere old.kernel new

-- the bytes that a read by reference shares, if its descriptor is open on a file
abbrev pub SharesRead : (by fd n : ℕ) → SystemState → Option Descriptor → KernelState → Type 0
SharesRead by fd n old (Some (on.File f at mode)) new = ReadsShared by fd n f at mode old new
SharesRead by fd n old o new = ⊤

-- A read of a file by copying has the effect of one by reference, over some pages; then its slices are released. So
-- hits are counted, the bytes that were not in memory are in new clean extents, and the bytes returned are those in
-- memory. In the tables, the descriptor's position moved.
pub record CopiesShared (by fd n f at : ℕ) (mode : Mode) (old : SystemState) (bytes : List ℕ) (new : KernelState) :
    Type 0 where
  pub mid : Stored
  pub gives : GivesCopy (file_read by fd f at mode n) old.disk old.kernel mid new bytes
  pub frees : FreesOnly mid new.store
  pub rest : SameElsewhere old.kernel new

-- the bytes that a read by copying shares, if its descriptor is open on a file and bytes were returned
abbrev pub SharesCopy : (by fd n : ℕ) → SystemState → Option Descriptor → Reply → KernelState → Type 0
SharesCopy by fd n old (Some (on.File f at mode)) (reply.Bytes bytes) new = CopiesShared by fd n f at mode old bytes new
SharesCopy by fd n old o r new = ⊤

-- A write of slices over a file: those of its pool are in the file at the same places. If there are bytes, room was
-- made for copies of the others, and then all of them replaced the bytes of the file, and nothing else of the cache
-- changed. If there are no bytes, the cache is unchanged. In the tables, the descriptor's position moved.
pub record WritesShared (f at : ℕ) (xs : List Slice) (old new : KernelState) : Type 0 where
  pub lies : LiesDirty f at xs new.cache
  pub over : 0 < byte_len xs → WritesFile f at xs (holding_of old) (holding_of new)
  pub nothing : byte_len xs ≡ 0 → holding_of new ≡ holding_of old
  pub moves : OnlyMoves f at (byte_len xs) old.domains new.domains
  pub rest : SameElsewhere old new

-- the slices that a write shares, if its descriptor is open on a file
abbrev pub SharesWrite : Option Descriptor → List Slice → (old new : KernelState) → Type 0
SharesWrite (Some (on.File f at mode)) xs old new = WritesShared f at xs old new
SharesWrite o xs old new = ⊤

-- A write over a file by copying: room was made for its bytes, and then they replaced those of the file, dirty and as
-- any write of their slices does. The slices were then released.
abbrev pub SharesPut : (pool : ℕ) → List ℕ → Option Descriptor → (old new : KernelState) → Type 0
SharesPut pool bytes (Some (on.File f at mode)) old new =
    AfterRoom pool (length bytes) old (λ roomy. LaysOver f at pool bytes roomy new)
SharesPut pool bytes o old new = ⊤

-- the bytes that a call on a file shares with it, or copies from it
abbrev pub SharesFile : SystemState → Event → Reply → KernelState → Type 0
SharesFile old (event.Call by (call.IolRead fd n)) r new =
    SharesRead by fd n old (held_by (tables_of old.kernel) by fd) new
SharesFile old (event.Call by (call.IolWrite fd a)) r new =
    SharesWrite (descriptor (tables_of old.kernel) by fd) (slices_in old.kernel.domains by a) old.kernel new
SharesFile old (event.Call by (call.Read fd n)) r new =
    SharesCopy by fd n old (held_by (tables_of old.kernel) by fd) r new
SharesFile old (event.Call by (call.Write fd bytes)) r new =
    SharesPut (for_written old.kernel by fd bytes).pool bytes (descriptor (tables_of old.kernel) by fd) old.kernel new
SharesFile old e r new = ⊤
