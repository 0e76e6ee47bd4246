-- The events that work on the extents of files in memory, and those that ask the store under them.
use Rattle.std.specs.Prelude.{Bool, true, false}
use Rattle.iol_core.specs.Calls.Writes.{is_file}
use Rattle.iol_core.specs.State.{State, descriptor}
use Rattle.iol_kernel.specs.FileReads.{held_by}
use Rattle.iol_core.specs.declared.events.Call.TheVariants as call
use Rattle.iol_core.specs.declared.events.Event.{Event}
use Rattle.iol_core.specs.declared.events.Event.TheVariants as event

-- whether the event may read or write the store under the files
abbrev pub asks_store : State → Event → Bool
asks_store s (event.Call by (call.IolRead fd n)) = is_file (held_by s by fd)
asks_store s (event.Call by (call.Read fd n)) = is_file (held_by s by fd)
asks_store s (event.Call by (call.Fsync fd)) = true
asks_store s event.Flush = true
asks_store s e = false

-- Whether the event may change the extents of files in memory: if new bytes need room, and if files are read, written
-- or written back. It may do so even if it is refused in the end.
abbrev pub uses_cache : State → Event → Bool
uses_cache s (event.Call by (call.AggMake bytes)) = true
uses_cache s (event.Call by (call.IolRead fd n)) = is_file (held_by s by fd)
uses_cache s (event.Call by (call.IolWrite fd a)) = is_file (descriptor s by fd)
uses_cache s (event.Call by (call.Read fd n)) = is_file (held_by s by fd)
uses_cache s (event.Call by (call.Write fd bytes)) = true
uses_cache s (event.Call by (call.Fsync fd)) = true
uses_cache s (event.Arrive c bytes) = true
uses_cache s event.Flush = true
uses_cache s event.DropClean = true
uses_cache s e = false

-- whether the event writes back to the store
abbrev pub writes_store : Event → Bool
writes_store (event.Call by (call.Fsync fd)) = true
writes_store event.Flush = true
writes_store e = false

-- whether the event makes a file
abbrev pub makes_file : Event → Bool
makes_file (event.Call by (call.FileNew name p)) = true
makes_file e = false
