-- A connection on which a descriptor is open, as the machine sees it.
use Rattle.std.proofs.Common.{[], ◌≡◌, ◌≢◌, ℕ, ◌&&◌, ◌||◌, Bool, not, List, ap, ◌∙◌, refl, sym, Option, Some, None}
use Rattle.std.proofs.Common.{true, false}
use Rattle.std.specs.Prelude.{◌==◌, unwrap_or, option_map, length}
use Rattle.iol_core.specs.NumberedLists.{lookup, changed}
use Rattle.iol_core.specs.State as machine
use Rattle.iol_core.specs.State.{State, Connection}
use Rattle.iol_core.specs.declared.descriptors.Descriptor.TheVariants as on
use Rattle.iol_hold.specs.declared.slices.Slice.{Slice}
use Rattle.iol_sock.specs.Connections.{Conn, conn_view}
use Rattle.iol_sock.specs.Table.{conn_in, no_conn}
use Rattle.iol_kernel.specs.Views.{state_view}
use Rattle.iol_kernel.specs.KernelState.{KernelState, IsSound, read_of}
use Rattle.iol_kernel.specs.Readings.{Reading, read, bytes_over}
use Rattle.iol_kernel.proofs.Connections.Arrivals.{changed_on}
use Rattle.iol_kernel.proofs.Connections.OneConnection.{Conns, IsOpenConn, conn_in-found, open_conn-there}
use Rattle.iol_kernel.proofs.Queues.PipeEnds.{end_held}
use Rattle.iol_kernel.proofs.State.Views.{lookup-map}

-- as the machine sees it, also if it does not exist

pub conn_at-read_of : (f : Reading) (h : KernelState) (c : ℕ)
    → machine.conn_at (read_of f h) c ≡ conn_view (read f) (conn_in h.conns c)
unfolding read_of state_view machine.conn_at conn_in
conn_at-read_of f h c =
    ap (λ (o : Option Connection). unwrap_or o machine.no_conn) (lookup-map (conn_view (read f)) h.conns c)
    ∙ of (lookup h.conns c)
  where
    of : (o : Option (Conn (List Slice))) → unwrap_or (option_map (conn_view (read f)) o) machine.no_conn
        ≡ conn_view (read f) (unwrap_or o no_conn)
    of None = refl
    of (Some x) = refl

pub incoming-read_of : (f : Reading) (h : KernelState) (c : ℕ)
    → (machine.conn_at (read_of f h) c).incoming ≡ read f (conn_in h.conns c).incoming
incoming-read_of f h c = ap (λ (x : Connection). x.incoming) (conn_at-read_of f h c)

-- a connection that does not exist

pub conn_in-none : (cs : Conns) (c : ℕ) → None ≡ lookup cs c → conn_in cs c ≡ no_conn
unfolding conn_in
conn_in-none cs c none = ap (λ (o : Option (Conn (List Slice))). unwrap_or o no_conn) (sym none)

-- a descriptor is open on it

module _ (h : KernelState) (d fd c : ℕ) (sound : IsSound h) (at : (f : Reading)
    → machine.descriptor (read_of f h) d fd ≡ Some (on.Connection c)) where
  pub open_held : IsOpenConn (conn_in h.conns c)
  open_held = end_held (bytes_over [] h.store) h d fd (on.Connection c) sound (at (bytes_over [] h.store))

  pub conn_there_held : lookup h.conns c ≢ None
  conn_there_held = open_conn-there h.conns c open_held

  pub found_held : lookup h.conns c ≡ Some (conn_in h.conns c)
  found_held = conn_in-found h.conns c conn_there_held

-- so it is not over

is_on : (y : Connection) → y.accepted ≡ true → y.closed ≡ false → machine.is_over y ≡ false
is_on y accepted' closed' = of (length y.outgoing == 0) y.accepted y.closed (machine.is_gone y.peer) accepted' closed'
  where
    of : (empty accepted closed gone : Bool) → accepted ≡ true → closed ≡ false
        → (empty && (closed || (not accepted && gone))) ≡ false
    of true true false gone a b = refl
    of false true false gone a b = refl
    of empty false closed gone a b = absurd (cc a)
    of empty true true gone a b = absurd (cc b)

pub with_on : (s : State) (c : ℕ) (y : Connection) → y.accepted ≡ true → y.closed ≡ false
    → machine.with_conn s c y ≡ record s { conns = changed s.conns c y }
with_on s c y accepted' closed' = changed_on s c y (is_on y accepted' closed')
