-- Events that neither place bytes nor pass them on, those that take bytes out, and those that change nothing.
use Rattle.std.specs.Prelude.{Bool, true, false, not}
use Rattle.iol_core.specs.State.{State}
use Rattle.iol_core.specs.Calls.Writes.{is_file}
use Rattle.iol_core.specs.declared.events.Call.TheVariants as call
use Rattle.iol_core.specs.declared.events.Event.{Event}
use Rattle.iol_core.specs.declared.events.Event.TheVariants as event
use Rattle.iol_kernel.specs.FileReads.{held_by}

-- Whether the event is about domains, pools, descriptors or drops, and not about bytes: every byte that it leaves keeps
-- its place. The bytes of a file may be only in the store, so calls that ask for a length are not among these.
abbrev pub is_still : Event → Bool
is_still (event.Call by call.DomainNew) = true
is_still (event.Call by call.Exit) = true
is_still (event.Call by (call.PoolCreate chunks list)) = true
is_still (event.Call by (call.PoolClose p)) = true
is_still (event.Call by (call.PoolAdmit p d)) = true
is_still (event.Call by (call.SetPool p)) = true
is_still (event.Call by (call.AggDrop a)) = true
is_still (event.Call by (call.OpenFile name mode)) = true
is_still (event.Call by call.Pipe) = true
is_still (event.Call by (call.GiveFd fd to)) = true
is_still (event.Call by (call.Close fd)) = true
is_still (event.Call by call.Accept) = true
is_still (event.ConnNew p) = true
is_still (event.PeerClosed c how) = true
is_still e = false

-- Whether the event only looks at something and changes nothing, whatever the reply.
abbrev pub only_looks : Event → Bool
only_looks (event.Call by (call.Show a)) = true
only_looks (event.Call by (call.Length fd)) = true
only_looks e = false

-- Whether the event takes bytes out, to a peer or by a copy off a queue, or moves a position. Its meaning for places is
-- its meaning for bytes: every byte that it leaves keeps its place.
abbrev pub takes_out : State → Event → Bool
takes_out s (event.Call by (call.Seek fd at)) = true
takes_out s (event.Call by (call.Read fd n)) = not (is_file (held_by s by fd))
takes_out s (event.Transmit c max) = true
takes_out s e = false

-- Whether the event looks at something, moves a position or writes back: it changes no page, no count and no pool.
abbrev pub keeps_store : Event → Bool
keeps_store (event.Call by (call.Show a)) = true
keeps_store (event.Call by (call.Length fd)) = true
keeps_store (event.Call by (call.Seek fd at)) = true
keeps_store (event.Call by (call.Fsync fd)) = true
keeps_store event.Flush = true
keeps_store e = false
