-- The number of slices into which an event divides its bytes.
use Rattle.std.specs.Prelude.{ℕ, length, ⊤, IsFalse}
use Rattle.iol_core.specs.State.{descriptor}
use Rattle.iol_core.specs.Calls.Writes.{is_file}
use Rattle.iol_core.specs.declared.events.Call.{Call}
use Rattle.iol_core.specs.declared.events.Call.TheVariants as call
use Rattle.iol_core.specs.declared.events.Event.{Event}
use Rattle.iol_core.specs.declared.events.Event.TheVariants as event
use Rattle.iol_kernel.specs.KernelState.{KernelState}
use Rattle.iol_kernel.specs.NewBytes.{AddsFew}
use Rattle.iol_kernel.specs.QueueSlices.{ArrivesFew, QueuesAgg, QueuesFew, TakesSlices}
use Rattle.iol_system.specs.Machine.{tables_of}

-- New bytes are in at most one slice per page: those of an aggregate, and those written to a queue by copying. A read
-- of a queue gives the queue's first slices, and a write of an aggregate to a queue adds the aggregate's: only the last
-- of them may be cut. For reads and writes of files, `SharesFile` names the slices; for any other call this says
-- nothing.
abbrev pub CallDivides : KernelState → (by : ℕ) → Call → KernelState → Type 0
CallDivides old by (call.AggMake bytes) new = AddsFew by (length bytes) old new
CallDivides old by (call.IolRead fd n) new =
    IsFalse (is_file (descriptor (tables_of old) by fd)) → TakesSlices by (descriptor (tables_of old) by fd) old new
CallDivides old by (call.IolWrite fd a) new =
    IsFalse (is_file (descriptor (tables_of old) by fd)) → QueuesAgg by a (descriptor (tables_of old) by fd) old new
CallDivides old by (call.Write fd bytes) new =
    IsFalse (is_file (descriptor (tables_of old) by fd))
    → QueuesFew (length bytes) (descriptor (tables_of old) by fd) old new
CallDivides old by c new = ⊤

-- A call divides its bytes as `CallDivides` says. Arriving bytes are in at most one slice per page. For any other event
-- this says nothing.
abbrev pub Divides : KernelState → Event → KernelState → Type 0
Divides old (event.Call by c) new = CallDivides old by c new
Divides old (event.Arrive c bytes) new = ArrivesFew (length bytes) c old new
Divides old e new = ⊤
