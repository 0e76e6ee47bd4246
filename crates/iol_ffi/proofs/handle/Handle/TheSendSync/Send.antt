-- A handle may go to another thread: the machine that it owns may, and so may the right to free its block.
use mir.Raw.{raw}
use base.Shift.{Keyless}
use denote.Memory.{lone}
use denote.RawPtr.{Ptr}
use denote.Struct.Struct.{exits_of}
use denote.Struct.Owning.{shape, fields, to}
use denote.Param.Send.{IsSend, AllSend, owning_send, struct_send, sendable}
use Rattle.std.specs.Global.{Global}
use Rattle.std.specs.Prelude.{Option, Some, None}
use Rattle.std.proofs.Crossing as heap
use Rattle.std_alloc.proofs.SendSync.{quiet, lies}
use Rattle.std_heap.proofs.Global.TheSendSync as alloc
use Rattle.iol_ffi.specs.Handles.{handle_owns}
use Rattle.iol_ffi.specs.contracts.Machine as Machine
use Rattle.iol_ffi.proofs.Machine.TheSendSync.{the_send as machine}
use Rattle.iol_ffi.specs.contracts.handle.Handle.{the_row, the_type}

owned : (a : Global) (p : Ptr) (o : Option Machine.the_row.Denot) → Keyless (handle_owns a p o)
owned a p None = tt
owned a p (Some x) = (lies Machine.the_row machine p x, heap.frees.frees a (raw (lone Machine.the_row.mir)) p)

pub send : IsSend the_row
send =
    let all : AllSend (fields the_type) = (search sendable, (alloc.the_field_send, tt)) in
    owning_send the_type all (λ d. owned d.alloc d.at d.value)
    (λ k. quiet (to the_type) (exits_of k (fields the_type)) ((struct_send (shape the_type) all).leaving k))
