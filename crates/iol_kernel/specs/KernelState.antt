-- The state of a system, and the state of the copying machine that it represents.
use Rattle.std.specs.Prelude.{◌≡◌, ℕ, ◌+◌, ◌≤◌, length, List, [], map, Option, Some, None}
use Rattle.std.specs.List.{AllByRecursion}
use Rattle.std.specs.Prelude.{unwrap_or, IsTrue, IsFalse, ⊤}
use Rattle.iol_core.specs.NumberedLists.{is_numbered}
use Rattle.iol_core.specs.State as machine
use Rattle.iol_core.specs.declared.descriptors.Descriptor.{Descriptor}
use Rattle.iol_core.specs.declared.descriptors.Descriptor.TheVariants as on
use Rattle.iol_core.specs.declared.limits.TheConstants.{MAX_AGGREGATE_BYTES, MAX_AGGREGATES, MAX_QUEUE_BYTES, MAX_FILES}
use Rattle.iol_core.specs.declared.limits.TheConstants.{MAX_FILE_BYTES, MAX_PIPES, MAX_POOLS, MAX_CONNECTIONS}
use Rattle.iol_core.specs.declared.limits.TheConstants.{LAST_CONNECTION}
use Rattle.iol_hold.specs.StoreState.{Stored, IsTidy, IsStill, AllReclaimed}
use Rattle.iol_hold.specs.Places.{byte_len}
use Rattle.iol_hold.specs.Layout.{number_at}
use Rattle.iol_hold.specs.Texts.{AllReadable}
use Rattle.iol_hold.specs.declared.slices.Slice.{Slice}
use Rattle.iol_pool.specs.Pools.{Pool, pool_in}
use Rattle.iol_desc.specs.EntryLists.{Rises}
use Rattle.iol_desc.specs.Tables.{agg_in, live_aggs_in}
use Rattle.iol_sum.specs.Sums.{Sums, IsRight}
use Rattle.iol_sock.specs.Connections.{Conn}
use Rattle.iol_sock.specs.Table.{conn_in}
use Rattle.iol_extent.specs.Extents.{IsApart, last_end}
use Rattle.iol_cache.specs.CacheState.{Cached, file_in, extents_in}
use Rattle.iol_cache.specs.Sound as cache
use Rattle.iol_cache.specs.declared.files.CachedFile.{CachedFile}
use Rattle.iol_kernel.specs.Readings.{Reading, bytes_over}
use Rattle.iol_kernel.specs.Views.{Pipe, Objects, pipe_in, state_view}
use Rattle.iol_kernel.specs.HoldCounts.{IsCounted}
use Rattle.iol_kernel.specs.EndCounts.{IsOpenOnce}

-- the values of the layers: an aggregate and a queue are lists of slices of the store's buffers, sums are remembered,
-- and parts of files are in a cache
pub record KernelState : Type 0 where
  pub store : Stored
  pub domains : List (machine.Domain (List Slice))
  pub pipes : List (Option (Pipe (List Slice)))
  pub conns : List (ℕ × Conn (List Slice))
  pub next_conn : ℕ
  pub sums : Sums
  pub files : List machine.File
  pub cache : Cached

-- a system's pipes, connections and files
abbrev pub objects_of : KernelState → Objects (List Slice)
objects_of h = record {
  pipes = h.pipes;
  conns = h.conns;
  next_conn = h.next_conn;
  files = h.files;
  cached =
      h.cache.files;
}

-- the copying machine's state, with the content that f reads
unfoldable pub read_of : Reading → KernelState → machine.State
read_of f h = state_view f h.domains h.store.pools (objects_of h)

-- the machine state that the system represents: with the bytes in memory, over a store with these slots
abbrev pub machine_of : (stored : List (List ℕ)) → KernelState → machine.State
machine_of stored h = read_of (bytes_over stored h.store) h

-- the machine state with the number of the place of each byte, and no bytes for those that only the store has
abbrev pub layout_of : KernelState → machine.State
layout_of h = read_of (record { at = number_at; stored = [] }) h

-- the slices of a domain's aggregates are in live buffers of their pools
abbrev pub IsDomainReadable : Stored → machine.Domain (List Slice) → Type 0
IsDomainReadable s d = AllByRecursion (λ e. AllReadable s e.1) d.aggs

-- the slices of a pipe's queue are in live buffers of their pools
abbrev pub IsPipeReadable : Stored → Option (Pipe (List Slice)) → Type 0
IsPipeReadable s None = ⊤
IsPipeReadable s (Some p) = AllReadable s p.queue

-- the slices of a connection's queues are in live buffers of their pools
abbrev pub IsConnReadable : Stored → ℕ × Conn (List Slice) → Type 0
IsConnReadable s e = AllReadable s e.1.incoming × AllReadable s e.1.outgoing

-- the extents of the file in slot n are in live buffers of its pool
pub record IsFileReadable (s : Stored) (cached : List CachedFile) (n : ℕ) : Type 0 where
  pub laid : AllByRecursion (cache.IsLaid s (file_in cached n).pool) (extents_in cached n)

-- the slices of all queues and extents are in live buffers of their pools
pub record AreReadable (s : Stored) (objects : Objects (List Slice)) : Type 0 where
  pub pipes : AllByRecursion (IsPipeReadable s) objects.pipes
  pub conns : AllByRecursion (IsConnReadable s) objects.conns
  pub files : (n : ℕ) → IsFileReadable s objects.cached n

-- the slices of a domain's aggregate: empty if there is no such aggregate
abbrev pub slices_in : List (machine.Domain (List Slice)) → (d a : ℕ) → List Slice
slices_in ds d a = unwrap_or (agg_in ds d a) []

-- a pipe, or an empty one whose ends are closed
abbrev pub queue_at : List (Option (Pipe (List Slice))) → (p : ℕ) → Pipe (List Slice)
queue_at pipes p = pipe_in [] pipes p

-- a descriptor is open on an open end of a pipe, or on a connection that was accepted and not closed, or on a file, at
-- a position within the limit of a file
abbrev pub IsOpenEnd : Objects (List Slice) → Option Descriptor → Type 0
IsOpenEnd objects None = ⊤
IsOpenEnd objects (Some (on.ReadEnd p)) = IsTrue (queue_at objects.pipes p).reading
IsOpenEnd objects (Some (on.WriteEnd p)) = IsTrue (queue_at objects.pipes p).writing
IsOpenEnd objects (Some (on.File f at mode)) = IsTrue (is_numbered objects.files f) × (at ≤ MAX_FILE_BYTES)
IsOpenEnd objects (Some (on.Connection c)) = IsTrue (conn_in objects.conns c).accepted
    × IsFalse (conn_in objects.conns c).closed

-- a pipe's queue is within the limit
abbrev pub IsShort : Option (Pipe (List Slice)) → Type 0
IsShort None = ⊤
IsShort (Some p) = byte_len p.queue ≤ MAX_QUEUE_BYTES

-- a connection's queues are within the limit, and only an accepted one was closed
pub record IsConn (e : ℕ × Conn (List Slice)) : Type 0 where
  pub incoming : byte_len e.1.incoming ≤ MAX_QUEUE_BYTES
  pub outgoing : byte_len e.1.outgoing ≤ MAX_QUEUE_BYTES
  pub waits : IsFalse e.1.accepted → IsFalse e.1.closed

-- a file's extents are in order without overlap, and end within the limit
pub record IsFile (x : CachedFile) : Type 0 where
  pub apart : IsApart 0 x.extents.extents
  pub short : last_end x.extents.extents ≤ MAX_FILE_BYTES

-- pipes, connections and files are within the limits; the numbers of connections rise, and are below the next
pub record AreLimited (objects : Objects (List Slice)) : Type 0 where
  pub queues : AllByRecursion IsShort objects.pipes
  pub few_pipes : length objects.pipes ≤ MAX_PIPES
  pub conns : AllByRecursion IsConn objects.conns
  pub few_conns : length objects.conns ≤ MAX_CONNECTIONS
  pub rising : Rises 0 objects.conns objects.next_conn
  pub last : objects.next_conn ≤ LAST_CONNECTION + 1
  pub cached : AllByRecursion IsFile objects.cached
  pub few_files : length objects.cached ≤ MAX_FILES

-- aggregates, queues and files are within the limits, which keep every count far below 2^63
pub record IsLimited (domains : List (machine.Domain (List Slice))) (all : Objects (List Slice)) : Type 0 where
  pub aggs : AllByRecursion (λ d. AllByRecursion (λ e. byte_len e.1 ≤ MAX_AGGREGATE_BYTES) d.aggs) domains
  pub few : live_aggs_in domains ≤ MAX_AGGREGATES
  pub objects : AreLimited all

-- there are at most MAX_POOLS pools, and those of each connection and each file are open
pub record ArePooled (pools : List Pool) (conns : List (ℕ × Conn (List Slice))) (cached : List CachedFile) :
    Type 0 where
  pub few : length pools ≤ MAX_POOLS
  pub opened : AllByRecursion (λ e. IsFalse (pool_in pools e.1.pool).closed) conns
  pub files_open : (n : ℕ) → IsTrue (is_numbered cached n) → IsFalse (pool_in pools (file_in cached n).pool).closed

-- the cache has the same files, each in its pool
abbrev pub AreFiled : List machine.File → List CachedFile → Type 0
AreFiled files cached = map (λ x. x.pool) cached ≡ map (λ x. x.pool) files

-- the cache of files is sound, over this store
unfoldable pub IsCached : Stored → Cached → Type 0
IsCached s c = cache.IsSound s c

-- The invariant between any two events: slices of aggregates and queues and extents of files are in live buffers of
-- their pools, each buffer is counted once per slice, no page is lost and no closed pool keeps unused chunks,
-- descriptors are open on open ends of pipes and on accepted connections, each on one of its own, and on files, the
-- remembered sums are right, and the cache of files is sound.
pub record IsSound (h : KernelState) : Type 0 where
  pub domains : AllByRecursion (IsDomainReadable h.store) h.domains
  pub objects : AreReadable h.store (objects_of h)
  pub fds : AllByRecursion (λ d. AllByRecursion (IsOpenEnd (objects_of h)) d.fds) h.domains
  pub once : IsOpenOnce h.domains
  pub counted : IsCounted h.store h.domains (objects_of h)
  pub tidy : IsTidy h.store
  pub still : IsStill h.store.arena
  pub reclaimed : AllReclaimed h.store
  pub limits : IsLimited h.domains (objects_of h)
  pub pooled : ArePooled h.store.pools h.conns h.cache.files
  pub sums : IsRight h.store.arena h.sums
  pub filed : AreFiled h.files h.cache.files
  pub cached : IsCached h.store h.cache
