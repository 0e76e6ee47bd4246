-- The state of the copying machine that a system's tables represent.
use Rattle.std.specs.Prelude.{ℕ, Bool, false, List, Option, option_map, map, unwrap_or}
use Rattle.iol_core.specs.Text.{Text}
use Rattle.iol_core.specs.NumberedLists.{in_place}
use Rattle.iol_core.specs.State as machine
use Rattle.iol_core.specs.State.{State, Domain}
use Rattle.iol_pool.specs.Pools.{Pool}
use Rattle.iol_hold.specs.Moves.{pool_meant}
use Rattle.iol_hold.specs.declared.slices.Slice.{Slice}
use Rattle.iol_sock.specs.Connections.{Conn, conn_view}
use Rattle.iol_cache.specs.declared.files.CachedFile.{CachedFile}
use Rattle.iol_kernel.specs.Readings.{Reading, read, slots_read}

-- a domain with each aggregate as its text
abbrev pub domain_view : {A B : Type 0} → (A → B) → Domain A → Domain B
domain_view g d = record {
  live = d.live;
  aggs = map (λ e. (e.0, g e.1)) d.aggs;
  next_agg = d.next_agg;
  fds = d.fds;
  default = d.default;
}

-- a pipe; A is the type of its queue
pub record Pipe (A : Type 0) : Type 0 where
  pub queue : A
  pub reading : Bool
  pub writing : Bool

-- a pipe with its queue as the text that g gives
abbrev pub pipe_view : {A : Type 0} → (A → Text) → Pipe A → machine.Pipe
pipe_view g p = record { queue = g p.queue; reading = p.reading; writing = p.writing }

-- the objects that descriptors are open on: pipes by slot, connections under rising numbers, and files by slot, with
-- the extents of each in memory; A is the type of a queue
pub record Objects (A : Type 0) : Type 0 where
  pub pipes : List (Option (Pipe A))
  pub conns : List (ℕ × Conn A)
  pub next_conn : ℕ
  pub files : List machine.File
  pub cached : List CachedFile

-- the state with each aggregate and queue, and each file, as f reads it
unfoldable pub state_view : Reading → List (Domain (List Slice)) → List Pool → Objects (List Slice) → State
state_view f domains pools objects = record {
  domains = map (domain_view (read f)) domains;
  pools = map pool_meant pools;
  files = objects.files;
  slots = slots_read f objects.cached;
  pipes = map (option_map (pipe_view (read f))) objects.pipes;
  conns = map (λ e. (e.0, conn_view (read f) e.1)) objects.conns;
  next_conn = objects.next_conn;
}

-- the pipe in a slot; if there is none, a pipe of that queue whose ends are closed
abbrev pub pipe_in : {A : Type 0} → A → List (Option (Pipe A)) → (p : ℕ) → Pipe A
pipe_in none pipes p = unwrap_or (in_place pipes p) (record { queue = none; reading = false; writing = false })
