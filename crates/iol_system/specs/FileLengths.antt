-- The end of a file that the result of an event reports, over any store.
use Rattle.std.specs.Prelude.{ℕ, ⊤}
use Rattle.iol_core.specs.Run.{outcome}
use Rattle.iol_core.specs.declared.events.Call.{Call}
use Rattle.iol_core.specs.declared.events.Call.TheVariants as call
use Rattle.iol_core.specs.declared.events.Event.{Event}
use Rattle.iol_core.specs.declared.events.Event.TheVariants as event
use Rattle.iol_core.specs.declared.events.Reply.{Reply}
use Rattle.iol_core.specs.declared.events.Reply.TheVariants as reply
use Rattle.iol_kernel.specs.FileLengths.{EndsAt, FitsNext, SeeksAt}
use Rattle.iol_system.specs.Machine.{SystemState}

-- `length` returns the end of a read of the file, `seek` sets a position of at most that end, and `file_new` returns
-- TooLong only if the store reports more bytes for the slot than a file may have, and accepts no such slot
abbrev pub CallReportsEnd : SystemState → (by : ℕ) → Call → Reply → Type 0
CallReportsEnd s by (call.Length fd) (reply.Count n) = EndsAt by fd n s.disk s.kernel
CallReportsEnd s by (call.Seek fd at) x = SeeksAt by fd at s.disk s.kernel (outcome x)
CallReportsEnd s by (call.FileNew name p) x = FitsNext s.disk s.kernel (outcome x)
CallReportsEnd s by c x = ⊤

-- the end of a file that an event reports: a call as `CallReportsEnd`, and no other event reports one
abbrev pub ReportsEnd : SystemState → Event → Reply → Type 0
ReportsEnd s (event.Call by c) x = CallReportsEnd s by c x
ReportsEnd s e x = ⊤
