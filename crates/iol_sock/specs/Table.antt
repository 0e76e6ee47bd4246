-- The table of live connections.
use Rattle.std.specs.Prelude.{◌≡◌, ℕ, ◌-◌, ◌≤◌, ◌==◌, ◌&&◌, Bool, true, false, not, List, [], map, filter, find}
use Rattle.std.specs.Prelude.{Option, Some, None, option_map, unwrap_or}
use Rattle.std.specs.Global.{Global}
use Rattle.std.specs.VecDeque.{deque_len, deque_capacity}
use Rattle.std.specs.declared.collections.VecDeque.{VecDeque}
use Rattle.iol_core.specs.NumberedLists.{lookup, without}
use Rattle.iol_core.specs.Prelude.{changed}
use Rattle.iol_core.specs.declared.descriptors.How.TheVariants.{Gone}
use Rattle.iol_pool.specs.Pools.{Pool, names_in}
use Rattle.iol_hold.specs.declared.slices.Slice.{Slice}
use Rattle.iol_desc.specs.EntryLists.{Rises}
use Rattle.iol_sock.specs.Connections.{Conn}

-- the live connections by rising number, the number of the next one, and the number of connections that can be added
-- without allocating
pub record ConnTable : Type 0 where
  pub conns : List (ℕ × Conn (List Slice))
  pub next : ℕ
  pub room : ℕ

-- the value for a number without a connection: accepted, closed and empty, and its peer is gone
abbrev pub no_conn : Conn (List Slice)
no_conn = record { pool = 0; incoming = []; outgoing = []; accepted = true; closed = true; peer = Some Gone }

-- the connection of that number
unfoldable pub conn_in : List (ℕ × Conn (List Slice)) → (c : ℕ) → Conn (List Slice)
conn_in conns c = unwrap_or (lookup conns c) no_conn

-- the table with x as the connection of that number
abbrev pub with_conn : ConnTable → (c : ℕ) → Conn (List Slice) → ConnTable
with_conn t c x = record t { conns = changed t.conns c x }

-- Only the connection of that number changes in a table. If it is unchanged, the table is unchanged.
pub record ChangesOne (t u : ConnTable) (c : ℕ) : Type 0 where
  pub others : u ≡ with_conn t c (conn_in u.conns c)
  pub same : conn_in u.conns c ≡ conn_in t.conns c → u ≡ t

-- The connection of that number changes from x to y, for which `Becomes` holds, and nothing else in the table changes.
pub record ChangesAs (t u : ConnTable) (c : ℕ) (Becomes : (x y : Conn (List Slice)) → Type 0) : Type 0 where
  pub conn : Becomes (conn_in t.conns c) (conn_in u.conns c)
  pub others : ChangesOne t u c

-- The numbers of the connections rise, and are below the next one; x is the connection of that number.
pub record IsAmong (conns : List (ℕ × Conn (List Slice))) (next c : ℕ) (x : Conn (List Slice)) : Type 0 where
  pub rise : Rises 0 conns next
  pub value : lookup conns c ≡ Some x

-- the connections, with the connection of that number accepted
abbrev pub accepted_in : List (ℕ × Conn (List Slice)) → (c : ℕ) → List (ℕ × Conn (List Slice))
accepted_in conns c = changed conns c (record (conn_in conns c) { accepted = true })

-- the numbers of the connections that no domain accepted, each with its pool
abbrev pub waiting_in : List (ℕ × Conn (List Slice)) → List (ℕ × ℕ)
waiting_in conns = map (λ e. (e.0, e.1.pool)) (filter (λ e. not e.1.accepted) conns)

-- the number of the first connection that no domain accepted and whose pool names the domain
abbrev pub first_waiting : List Pool → (d : ℕ) → List (ℕ × Conn (List Slice)) → Option ℕ
first_waiting pools d conns = option_map (λ e. e.0) (find (λ e. not e.1.accepted && names_in pools e.1.pool d) conns)

-- A number is removed from the list of waiting connections, and there is no less room.
pub record Unlists (old new : VecDeque (ℕ × ℕ) Global) (number : ℕ) : Type 0 where
  pub items : new.items ≡ without old.items number
  pub room : deque_capacity old - deque_len old ≤ deque_capacity new - deque_len new

-- whether there is a connection, and it belongs to the pool
abbrev pub is_of : (pool : ℕ) → Option (Conn (List Slice)) → Bool
is_of p None = false
is_of p (Some x) = x.pool == p
