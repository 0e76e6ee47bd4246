-- When there is room for an event, and kinds of replies.
use Rattle.std.specs.Prelude.{◌≤◌, ◌<◌, ℕ, List, length, Option, Some, ⊤}
use Rattle.iol_core.specs.State.{descriptor}
use Rattle.iol_core.specs.declared.descriptors.Descriptor.{Descriptor}
use Rattle.iol_core.specs.declared.descriptors.Descriptor.TheVariants as on
use Rattle.iol_core.specs.declared.events.Call.{Call}
use Rattle.iol_core.specs.declared.events.Call.TheVariants as call
use Rattle.iol_core.specs.declared.events.Event.{Event}
use Rattle.iol_core.specs.declared.events.Event.TheVariants as event
use Rattle.iol_core.specs.declared.events.Reply.{Reply}
use Rattle.iol_core.specs.declared.events.Reply.TheVariants as reply
use Rattle.iol_core.specs.declared.refusals.Refusal.TheVariants.{NoRoom, Fault, Memory}
use Rattle.iol_arena.specs.Chunks.{free_chunks}
use Rattle.iol_cache.specs.ReadResults.{RoomToRead, NoRoomToRead}
use Rattle.iol_kernel.specs.FileCalls.{holding_of}
use Rattle.iol_hold.specs.Room.{pages_of}
use Rattle.iol_hold.specs.declared.slices.Slice.{Slice}
use Rattle.iol_kernel.specs.FileReads.{held_by}
use Rattle.iol_kernel.specs.KernelState.{KernelState, slices_in}
use Rattle.iol_kernel.specs.FileWrites.{pages_to_write, pool_of_file}
use Rattle.iol_system.specs.Machine.{SystemState, tables_of}
use Rattle.iol_system.specs.Wants.{Fits, FitsNot, for_arrived, for_made, for_written}

-- A read of a file has room for the pages that its gaps need. A read of anything else needs none.
abbrev pub HasRoomToRead : SystemState → Option Descriptor → (n : ℕ) → Type 0
HasRoomToRead s (Some (on.File f at mode)) n = RoomToRead f at n s.disk (holding_of s.kernel)
HasRoomToRead s o n = ⊤

-- a read of a file lacks room for the pages that its gaps need
abbrev pub LacksRoomToRead : SystemState → Option Descriptor → (n : ℕ) → Type 0
LacksRoomToRead s (Some (on.File f at mode)) n = NoRoomToRead f at n s.disk (holding_of s.kernel)
LacksRoomToRead s o n = ⊥

-- An `iol_write` to a file has room for copies of the bytes of other pools than the file's. One to anything else needs
-- none.
abbrev pub HasRoomToWrite : KernelState → Option Descriptor → List Slice → Type 0
HasRoomToWrite h (Some (on.File f at mode)) xs = pages_to_write h f xs ≤ length (pages_of h.store (pool_of_file h f))
HasRoomToWrite h o xs = ⊤

-- an `iol_write` to a file lacks room for copies of the bytes of other pools than the file's
abbrev pub LacksRoomToWrite : KernelState → Option Descriptor → List Slice → Type 0
LacksRoomToWrite h (Some (on.File f at mode)) xs = length (pages_of h.store (pool_of_file h f)) < pages_to_write h f xs
LacksRoomToWrite h o xs = ⊥

-- The pages that a call's new bytes need fit their pool, together with those that something other than clean extents
-- holds; or its chunks are free.
abbrev pub CallHasRoom : SystemState → (by : ℕ) → Call → Type 0
CallHasRoom s by (call.AggMake bytes) = Fits s.kernel (for_made s.kernel by bytes)
CallHasRoom s by (call.PoolCreate chunks list) = chunks ≤ length (free_chunks s.kernel.store.arena)
CallHasRoom s by (call.IolRead fd n) = HasRoomToRead s (held_by (tables_of s.kernel) by fd) n
CallHasRoom s by (call.IolWrite fd a) = HasRoomToWrite s.kernel (descriptor (tables_of s.kernel) by fd)
    (slices_in s.kernel.domains by a)
CallHasRoom s by (call.Read fd n) = HasRoomToRead s (held_by (tables_of s.kernel) by fd) n
CallHasRoom s by (call.Write fd bytes) = Fits s.kernel (for_written s.kernel by fd bytes)
CallHasRoom s by c = ⊤

-- The pages that a call's new bytes need do not fit their pool, or its chunks are not free.
abbrev pub CallLacksRoom : SystemState → (by : ℕ) → Call → Type 0
CallLacksRoom s by (call.AggMake bytes) = FitsNot s.kernel (for_made s.kernel by bytes)
CallLacksRoom s by (call.PoolCreate chunks list) = length (free_chunks s.kernel.store.arena) < chunks
CallLacksRoom s by (call.IolRead fd n) = LacksRoomToRead s (held_by (tables_of s.kernel) by fd) n
CallLacksRoom s by (call.IolWrite fd a) =
    LacksRoomToWrite s.kernel (descriptor (tables_of s.kernel) by fd) (slices_in s.kernel.domains by a)
CallLacksRoom s by (call.Read fd n) = LacksRoomToRead s (held_by (tables_of s.kernel) by fd) n
CallLacksRoom s by (call.Write fd bytes) = FitsNot s.kernel (for_written s.kernel by fd bytes)
CallLacksRoom s by c = ⊥

-- the pages or the chunks that an event needs are available
abbrev pub HasRoomFor : SystemState → Event → Type 0
HasRoomFor s (event.Call by c) = CallHasRoom s by c
HasRoomFor s (event.Arrive c bytes) = Fits s.kernel (for_arrived s.kernel c bytes)
HasRoomFor s e = ⊤

-- the pages or the chunks that an event needs are not available
abbrev pub LacksRoomFor : SystemState → Event → Type 0
LacksRoomFor s (event.Call by c) = CallLacksRoom s by c
LacksRoomFor s (event.Arrive c bytes) = FitsNot s.kernel (for_arrived s.kernel c bytes)
LacksRoomFor s e = ⊥

-- The new bytes of an `agg_make` or a `write` fit their pool. Any other call places no bytes of its own.
abbrev pub CallBytesFit : SystemState → (by : ℕ) → Call → Type 0
CallBytesFit s by (call.AggMake bytes) = Fits s.kernel (for_made s.kernel by bytes)
CallBytesFit s by (call.Write fd bytes) = Fits s.kernel (for_written s.kernel by fd bytes)
CallBytesFit s by c = ⊤

-- The new bytes of an `agg_make`, of a `write` or of an arrival fit their pool. Any other event places no bytes of its
-- own.
abbrev pub BytesFit : SystemState → Event → Type 0
BytesFit s (event.Call by c) = CallBytesFit s by c
BytesFit s (event.Arrive c bytes) = Fits s.kernel (for_arrived s.kernel c bytes)
BytesFit s e = ⊤

-- a reply that is no refusal
abbrev pub IsDone : Reply → Type 0
IsDone (reply.Refused x) = ⊥
IsDone r = ⊤

-- a refusal
abbrev pub IsRefused : Reply → Type 0
IsRefused (reply.Refused x) = ⊤
IsRefused r = ⊥

-- a refusal for lack of room
abbrev pub IsNoRoom : Reply → Type 0
IsNoRoom (reply.Refused (NoRoom p)) = ⊤
IsNoRoom r = ⊥

-- a refusal for lack of memory
abbrev pub IsMemory : Reply → Type 0
IsMemory (reply.Refused Memory) = ⊤
IsMemory r = ⊥

-- a refusal after a failure of the store
abbrev pub IsFault : Reply → Type 0
IsFault (reply.Refused (Fault f)) = ⊤
IsFault r = ⊥

-- a refusal other than NoRoom, Memory and Fault
abbrev pub IsEarly : Reply → Type 0
IsEarly (reply.Refused (NoRoom p)) = ⊥
IsEarly (reply.Refused (Fault f)) = ⊥
IsEarly (reply.Refused Memory) = ⊥
IsEarly (reply.Refused x) = ⊤
IsEarly r = ⊥
