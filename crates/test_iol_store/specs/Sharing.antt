-- Bytes and connections of the tests.
use Rattle.std.specs.Prelude.{ℕ, ◌≤◌, ◌≢◌, List, None}
use Rattle.iol_agg.specs.KnownHolds.{IsHeldBy}
use Rattle.iol_core.specs.NumberedLists.{lookup}
use Rattle.iol_core.specs.declared.limits.TheConstants.{MAX_QUEUE_BYTES}
use Rattle.iol_hold.specs.Places.{byte_len}
use Rattle.iol_hold.specs.StoreState.{Stored}
use Rattle.iol_hold.specs.Texts.{AllReadable, bufs_of}
use Rattle.iol_hold.specs.declared.slices.Slice.{Slice}
use Rattle.iol_sock.specs.Connections.{Conn}
use Rattle.iol_sock.specs.Table.{ConnTable, conn_in}

-- these slices fit in a queue and can be read, and nothing else is held
pub record IsAllThere (s : Stored) (xs : List Slice) : Type 0 where
  pub held : IsHeldBy s (bufs_of xs)
  pub readable : AllReadable s xs
  pub few : byte_len xs ≤ MAX_QUEUE_BYTES

-- there is a connection of that number, and a queue of it is all that is held
pub record HasOne (queue : Conn (List Slice) → List Slice) (n : ℕ) (s : Stored) (t : ConnTable) : Type 0 where
  pub there : lookup t.conns n ≢ None
  pub queued : IsAllThere s (queue (conn_in t.conns n))
