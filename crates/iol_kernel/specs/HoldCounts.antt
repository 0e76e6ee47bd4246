-- The number of references to each buffer, over all holders.
use Rattle.std.specs.Prelude.{◌≡◌, ℕ, ◌+◌, List, Option, Some, None, sum_by, flat_map}
use Rattle.iol_core.specs.State.{Domain}
use Rattle.iol_core.specs.declared.numbers.BufId.{BufId}
use Rattle.iol_hold.specs.StoreState.{Stored, count_of}
use Rattle.iol_hold.specs.Moves.{Covers, IsCountable, tally}
use Rattle.iol_hold.specs.Texts.{bufs_of}
use Rattle.iol_hold.specs.declared.slices.Slice.{Slice}
use Rattle.iol_sock.specs.Connections.{Conn}
use Rattle.iol_cache.specs.CacheState.{held}
use Rattle.iol_kernel.specs.Views.{Pipe, Objects}

-- the number of the slices whose buffer is b
abbrev pub uses : BufId → List Slice → ℕ
uses b xs = tally b (bufs_of xs)

-- the buffers that aggregates hold, by number
abbrev pub bufs_in : List (ℕ × List Slice) → List BufId
bufs_in aggs = flat_map (λ e. bufs_of e.1) aggs

-- the references to b in the domain's aggregates
abbrev pub domain_uses : BufId → Domain (List Slice) → ℕ
domain_uses b d = sum_by (λ e. uses b e.1) d.aggs

-- the references to b in a pipe's queue
abbrev pub pipe_uses : BufId → Option (Pipe (List Slice)) → ℕ
pipe_uses b None = 0
pipe_uses b (Some p) = uses b p.queue

-- the references to b in a connection's queues
abbrev pub conn_uses : BufId → ℕ × Conn (List Slice) → ℕ
conn_uses b e = uses b e.1.incoming + uses b e.1.outgoing

-- the references to b in all aggregates and queues, and in extents of files
abbrev pub all_uses : List (Domain (List Slice)) → Objects (List Slice) → BufId → ℕ
all_uses domains objects b =
    sum_by (domain_uses b) domains + sum_by (pipe_uses b) objects.pipes + sum_by (conn_uses b) objects.conns
    + tally b (held objects.cached)

-- these slices are counted, and each count can be incremented once per slice
pub record MayShare (s : Stored) (slices : List Slice) : Type 0 where
  pub covered : Covers s (bufs_of slices)
  pub countable : IsCountable s (bufs_of slices)

-- the count of each buffer is the number of its slices, over all holders
pub record IsCounted (s : Stored) (domains : List (Domain (List Slice))) (objects : Objects (List Slice)) : Type 0 where
  pub each : (b : BufId) → count_of s b ≡ all_uses domains objects b
