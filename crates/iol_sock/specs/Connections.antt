-- Connections: two queues and a peer.
use Rattle.std.specs.Prelude.{ℕ, ◌==◌, ◌&&◌, ◌||◌, Bool, false, not, if◌then◌else◌, List, [], ◌++◌, Option, Some, None}
use Rattle.iol_core.specs.Text.{Text}
use Rattle.iol_core.specs.State as machine
use Rattle.iol_core.specs.State.{is_gone}
use Rattle.iol_core.specs.declared.descriptors.How.{How}
use Rattle.iol_core.specs.declared.descriptors.How.TheVariants.{Done, Gone}
use Rattle.iol_core.specs.declared.numbers.BufId.{BufId}
use Rattle.iol_hold.specs.Places.{byte_len}
use Rattle.iol_hold.specs.Texts.{bufs_of}
use Rattle.iol_hold.specs.declared.slices.Slice.{Slice}

-- The pool of arriving bytes, the received bytes that are not yet read, the bytes to be sent, whether a domain accepted
-- the connection, whether its domain closed it, and how its peer closed, if it did. A is the type of its queues: lists
-- of slices here.
pub record Conn (A : Type 0) : Type 0 where
  pub pool : ℕ
  pub incoming : A
  pub outgoing : A
  pub accepted : Bool
  pub closed : Bool
  pub peer : Option How

-- a connection of the copying machine, with the text that g gives for each queue
abbrev pub conn_view : {A : Type 0} → (A → Text) → Conn A → machine.Connection
conn_view g c = record {
  pool = c.pool;
  incoming = g c.incoming;
  outgoing = g c.outgoing;
  accepted = c.accepted;
  closed = c.closed;
  peer = c.peer;
}

-- the buffers that a connection references, one for each slice
abbrev pub held_by : Conn (List Slice) → List BufId
held_by c = bufs_of c.incoming ++ bufs_of c.outgoing

-- a connection that waits to be accepted, with empty queues
abbrev pub new_conn : (pool : ℕ) → Conn (List Slice)
new_conn p = record { pool = p; incoming = []; outgoing = []; accepted = false; closed = false; peer = None }

-- A connection whose peer closes it in this way: a peer that is gone stays gone, and bytes to be sent to a peer that is
-- gone now are dropped.
abbrev pub closed_by : Conn (List Slice) → How → Conn (List Slice)
closed_by c Done = record c { peer = if is_gone c.peer then Some Gone else Some Done }
closed_by c Gone = record c { outgoing = []; peer = Some Gone }

-- whether nothing is left to send, and the connection was closed, or was never accepted and its peer is gone
abbrev pub is_over : Conn (List Slice) → Bool
is_over c = (byte_len c.outgoing == 0) && (c.closed || (not c.accepted && is_gone c.peer))
