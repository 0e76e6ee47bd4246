-- The state after a refusal that may come late: NoRoom, Memory or Fault.
use Rattle.std.specs.Prelude.{◌≡◌, ℕ, List, Option, Some, ⊤}
use Rattle.iol_core.specs.State.{descriptor}
use Rattle.iol_core.specs.declared.descriptors.Mode.{Mode}
use Rattle.iol_core.specs.declared.descriptors.Descriptor.{Descriptor}
use Rattle.iol_core.specs.declared.descriptors.Descriptor.TheVariants as on
use Rattle.iol_core.specs.declared.events.Call.{Call}
use Rattle.iol_core.specs.declared.events.Call.TheVariants as call
use Rattle.iol_core.specs.declared.events.Event.{Event}
use Rattle.iol_core.specs.declared.events.Event.TheVariants as event
use Rattle.iol_core.specs.declared.events.Reply.{Reply}
use Rattle.iol_core.specs.declared.events.Reply.TheVariants as reply
use Rattle.iol_core.specs.declared.refusals.Refusal.{Refusal}
use Rattle.iol_hold.specs.Moves.{SameLists}
use Rattle.iol_hold.specs.Releases.{FreesOnly}
use Rattle.iol_hold.specs.StoreState.{Stored}
use Rattle.iol_hold.specs.declared.slices.Slice.{Slice}
use Rattle.iol_kernel.specs.FileReads.{LeavesAtRefusal, file_read, held_by}
use Rattle.iol_kernel.specs.KernelState.{KernelState, slices_in}
use Rattle.iol_kernel.specs.Room.{MayHaveEvicted}
use Rattle.iol_kernel.specs.FileWrites.{LeavesUnlaid, LeavesUnwritten}
use Rattle.iol_system.specs.Machine.{SystemState, tables_of}
use Rattle.iol_system.specs.Wants.{Wants, for_arrived, for_made, for_written}

-- P holds for a reply's refusal, if it is one
abbrev pub IfRefused : Reply → (Refusal → Type 0) → Type 0
IfRefused (reply.Refused x) P = P x
IfRefused r P = ⊤

-- only pages, and extents of files in memory, changed
abbrev pub SameTables : (old new : KernelState) → Type 0
SameTables old new = new ≡ record old { store = new.store; cache = new.cache }

-- a refusal changed nothing, or made room for these bytes
abbrev pub MadeRoomFor : Wants → (old : KernelState) → Reply → (new : KernelState) → Type 0
MadeRoomFor w old r new = IfRefused r (MayHaveEvicted w.pool w.count old new)

-- A refused read of a file by reference: hits may have been counted, and clean extents may have been evicted to make
-- room, in the order of eviction.
abbrev pub ReadLeaves : (by fd n : ℕ) → (old : SystemState) → Option Descriptor → Reply → (new : SystemState) → Type 0
ReadLeaves by fd n old (Some (on.File f at mode)) r new =
    IfRefused r (λ x. SameTables old.kernel new.kernel
    × LeavesAtRefusal (file_read by fd f at mode n) old.disk old.kernel new.disk new.kernel x)
ReadLeaves by fd n old o r new = ⊤

-- A refused read of a file by copying left the state that one by reference leaves, over some pages of which some were
-- freed since.
pub record LeavesCopied (by fd n f at : ℕ) (mode : Mode) (old new : SystemState) (x : Refusal) : Type 0 where
  pub mid : Stored
  pub leaves : LeavesAtRefusal (file_read by fd f at mode n) old.disk old.kernel new.disk
      (record new.kernel { store = mid }) x
  pub frees : FreesOnly mid new.kernel.store
  pub lists : SameLists mid new.kernel.store
  pub same : SameTables old.kernel new.kernel

-- the state that a refused read by copying leaves, if its descriptor is open on a file
abbrev pub CopyLeaves : (by fd n : ℕ) → (old : SystemState) → Option Descriptor → Reply → (new : SystemState) → Type 0
CopyLeaves by fd n old (Some (on.File f at mode)) r new = IfRefused r (LeavesCopied by fd n f at mode old new)
CopyLeaves by fd n old o r new = ⊤

-- A refused write of slices to a file at most evicted extents, and the bytes placed are released; if there is no room,
-- no extent was evicted.
abbrev pub WriteLeaves : (old : KernelState) → Option Descriptor → List Slice → Reply → (new : KernelState) → Type 0
WriteLeaves old (Some (on.File f at mode)) xs r new =
    IfRefused r (λ x. SameTables old new × LeavesUnwritten f xs old new x)
WriteLeaves old o xs r new = ⊤

-- A refused write of bytes by copying at most evicted extents: for a queue, to place the bytes that it takes; for a
-- file, the bytes placed are released. If there is no room, nothing changed.
abbrev pub PutLeaves : Wants → List ℕ → (old : KernelState) → Option Descriptor → Reply → (new : KernelState) → Type 0
PutLeaves w bytes old (Some (on.File f at mode)) r new = IfRefused r (LeavesUnlaid w.pool bytes old new)
PutLeaves w bytes old o r new = MadeRoomFor w old r new

-- the state that a refused call leaves
abbrev pub CallLeaves : (old : SystemState) → (by : ℕ) → Call → Reply → (new : SystemState) → Type 0
CallLeaves old by (call.AggMake bytes) r new = MadeRoomFor (for_made old.kernel by bytes) old.kernel r new.kernel
CallLeaves old by (call.IolRead fd n) r new = ReadLeaves by fd n old (held_by (tables_of old.kernel) by fd) r new
CallLeaves old by (call.IolWrite fd a) r new =
    WriteLeaves old.kernel (descriptor (tables_of old.kernel) by fd) (slices_in old.kernel.domains by a) r new.kernel
CallLeaves old by (call.Read fd n) r new = CopyLeaves by fd n old (held_by (tables_of old.kernel) by fd) r new
CallLeaves old by (call.Write fd bytes) r new =
    PutLeaves (for_written old.kernel by fd bytes) bytes old.kernel (descriptor (tables_of old.kernel) by fd) r
    new.kernel
CallLeaves old by c r new = ⊤

-- A refused event that places bytes, or reads or writes a file, changed nothing; or it came late, and only made room or
-- counted hits. If there is no room, it at most counted hits. For any other event this says nothing.
abbrev pub LeavesLate : (old : SystemState) → Event → Reply → (new : SystemState) → Type 0
LeavesLate old (event.Call by c) r new = CallLeaves old by c r new
LeavesLate old (event.Arrive c bytes) r new = MadeRoomFor (for_arrived old.kernel c bytes) old.kernel r new.kernel
LeavesLate old e r new = ⊤
