-- Sharing: a call that passes on bytes that are already in memory copies none of them.
--
-- A text is a list of pairs of a number and a pool. Such a call never looks at the numbers: it only moves the pairs. So
-- a state can be read in two ways. As values, each number is a byte. As a layout, each number is the address of a byte,
-- and a text lists the addresses of its bytes, in order.
--
-- On a layout the meaning of a call determines the addresses of the bytes of its result. If one aggregate is at
-- addresses 7 and 8 and another at 3, the joined aggregate is at 7, 8 and 3. No byte was copied, since a copy would
-- have another address. A system shares if its layouts take the same steps as its values.
use Rattle.std.specs.Prelude.{Bool, true, false, not}
use Rattle.iol_core.specs.State.{State, descriptor}
use Rattle.iol_core.specs.Calls.Writes.{is_file}
use Rattle.iol_core.specs.Run.{StepsTo}
use Rattle.iol_core.specs.declared.events.Call.TheVariants as call
use Rattle.iol_core.specs.declared.events.Event.{Event}
use Rattle.iol_core.specs.declared.events.Event.TheVariants as event
use Rattle.iol_core.specs.declared.events.Reply.{Reply}

-- Whether the event passes on bytes that are already in memory, and so must share them. Reads and writes of files are
-- not included: the bytes of a file may be only in the store, and written bytes may have to be copied into the file's
-- pool.
abbrev pub is_sharing : State → Event → Bool
is_sharing s (event.Call by (call.AggDup a)) = true
is_sharing s (event.Call by (call.AggCut a from to)) = true
is_sharing s (event.Call by (call.AggSplit a at)) = true
is_sharing s (event.Call by (call.AggJoin a b)) = true
is_sharing s (event.Call by (call.AggReplace a from to b)) = true
is_sharing s (event.Call by (call.AggGive a to)) = true
is_sharing s (event.Call by (call.IolRead fd n)) = not (is_file (descriptor s by fd))
is_sharing s (event.Call by (call.IolWrite fd a)) = not (is_file (descriptor s by fd))
is_sharing s e = false

-- old and new are layouts: the event does to addresses what it does to bytes
abbrev pub LaysOut : State → Event → Reply → State → Type 0
LaysOut old e r new = StepsTo old e r new
