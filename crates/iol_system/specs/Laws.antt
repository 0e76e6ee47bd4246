-- Laws of runs: consequences of a chain of steps that keep their promises. Each is the contract of a function of
-- `laws`.
use Rattle.std.specs.Prelude.{◌≡◌, ◌⊎◌, ◌+◌, ◌<◌, ℕ, List, [], ◌∷◌, ◌++◌, Option, Some, option_map, IsTrue}
use Rattle.std.specs.Prelude.{IsFalse, ⊤}
use Rattle.std.specs.List.{list_any}
use Rattle.iol_core.specs.State.{State, aggregate}
use Rattle.iol_core.specs.Text.{Text}
use Rattle.iol_core.specs.Values.{gives_up}
use Rattle.iol_core.specs.Run.{Run}
use Rattle.iol_core.specs.SharingCalls.{is_sharing}
use Rattle.iol_core.specs.declared.numbers.BufId.{BufId}
use Rattle.iol_core.specs.declared.events.Call.TheVariants as call
use Rattle.iol_core.specs.declared.events.Event.{Event}
use Rattle.iol_core.specs.declared.events.Event.TheVariants as event
use Rattle.iol_core.specs.declared.events.Reply.{Reply}
use Rattle.iol_core.specs.declared.events.Reply.TheVariants.{Refused}
use Rattle.iol_core.specs.declared.refusals.Refusal.TheVariants.{NoRoom}
use Rattle.iol_arena.specs.Buffers.{IsLive}
use Rattle.iol_arena.specs.Chunks.{is_taken}
use Rattle.iol_arena.specs.State.{chunk_count}
use Rattle.iol_arena.specs.State as arena
use Rattle.iol_pool.specs.Pools.{pool_in}
use Rattle.iol_hold.specs.Moves.{Stays}
use Rattle.iol_hold.specs.Releases.{HasAllOrNone}
use Rattle.iol_hold.specs.StoreState.{Stored, IsInPool, count_of}
use Rattle.iol_back.specs.Disk.{IfHonest}
use Rattle.iol_evict.specs.Order.{entry_at, worth}
use Rattle.iol_evict.specs.declared.entry.Entry.{Entry}
use Rattle.iol_extent.specs.Extents.{Extent, extent_over}
use Rattle.iol_cache.specs.CacheState.{Cached, extents_in, order_in}
use Rattle.iol_kernel.specs.FileReads.{held_by}
use Rattle.iol_kernel.specs.KernelState.{layout_of}
use Rattle.iol_kernel.specs.LocatedParts.{addresses_of}
use Rattle.iol_laws.specs.Order.{IsOrderly}
use Rattle.iol_system.specs.NobodyLeft.{IsAllFree, IsLeft}
use Rattle.iol_system.specs.InPlace.{IsInRange}
use Rattle.iol_system.specs.Machine.{SystemState, machine_of, tables_of}
use Rattle.iol_system.specs.Promises.{Promises, Chain}
use Rattle.iol_system.specs.Room.{HasRoomFor, IsRefused}
use Rattle.iol_system.specs.Safe.{IsSafe}
use Rattle.iol_system.specs.Uses.{HasOneUse, HasOnePool}
use Rattle.iol_system.specs.Values.{ValuesStayOver}

-- over an honest store the replies of a run, and the state after it, are those of the copying machine
abbrev pub RunsAsTheMachine : Type 0
RunsAsTheMachine = (old new : SystemState) (es : List Event) (rs : List Reply) → Chain old es rs new
    → IfHonest old.disk (Run (machine_of old) es rs (machine_of new))

-- The state between the first events of a run and the others. Each part is a run of its own.
pub record Between (old : SystemState) (past future : List Event) (rs : List Reply) (new : SystemState) : Type 0 where
  pub now : SystemState
  pub past_replies : List Reply
  pub future_replies : List Reply
  pub replies : rs ≡ past_replies ++ future_replies
  pub before : Chain old past past_replies now
  pub after : Chain now future future_replies new

-- a run of some events and then others is a run of the first, and from there a run of the others
abbrev pub RunsInParts : Type 0
RunsInParts = (old new : SystemState) (past future : List Event) (rs : List Reply) → Chain old (past ++ future) rs new
    → Between old past future rs new

-- an event of a run, and its reply: a step that keeps all promises, between a run of the events before and one of those
-- after it
pub record Moment (old : SystemState) (past : List Event) (e : Event) (future : List Event) (rs : List Reply)
    (new : SystemState) : Type 0 where
  pub before : SystemState
  pub after : SystemState
  pub past_replies : List Reply
  pub reply : Reply
  pub future_replies : List Reply
  pub replies : rs ≡ past_replies ++ reply ∷ future_replies
  pub past_runs : Chain old past past_replies before
  pub promises : Promises before e reply after
  pub future_runs : Chain after future future_replies new

-- Each event of a run keeps all promises of a step: for example, NoRoom is returned only if there is no room.
abbrev pub EachEventIsAStep : Type 0
EachEventIsAStep = (old new : SystemState) (past : List Event) (e : Event) (future : List Event) (rs : List Reply)
    → Chain old (past ++ e ∷ future) rs new → Moment old past e future rs new

-- an entry after a hit: it has the height that it would enter with, above L
abbrev pub hit_above : (low : ℕ) → Entry → Entry
hit_above low e = record e { height = low + worth e.size e.cost }

-- the entry at this key is unchanged, or was hit
abbrev pub IsSameOrHit : (low : ℕ) → (old new : Option Entry) → Type 0
IsSameOrHit low old new = (new ≡ old) ⊎ (new ≡ option_map (hit_above low) old)

-- byte i of file f is in the range that the event reads, by reference or by copying
abbrev pub IsRead : State → Event → (f i : ℕ) → Type 0
IsRead s (event.Call by (call.IolRead fd n)) f i = IsInRange (held_by s by fd) n f i
IsRead s (event.Call by (call.Read fd n)) f i = IsInRange (held_by s by fd) n f i
IsRead s e f i = ⊥

-- the extent that begins there covers a byte that is read
pub record IsMet (Read : (f i : ℕ) → Type 0) (c : Cached) (f at : ℕ) : Type 0 where
  pub byte : ℕ
  pub read : Read f byte
  pub extent : Extent
  pub over : extent_over (extents_in c.files f) byte ≡ Some extent
  pub begins : extent.at ≡ at

-- The extents of files in memory are unchanged, dirty or clean. L of each pool and each clean extent in the pool's
-- order are unchanged, except that hits are counted for extents that the range read meets.
pub record EvictsNothing (Read : (f i : ℕ) → Type 0) (old new : Cached) : Type 0 where
  pub extents : (f : ℕ) → extents_in new.files f ≡ extents_in old.files f
  pub low : (p : ℕ) → (order_in new.orders p).low ≡ (order_in old.orders p).low
  pub order : (p f at : ℕ) → IsSameOrHit (order_in old.orders p).low
      (entry_at (order_in old.orders p).entries f at) (entry_at (order_in new.orders p).entries f at)
  pub unread : (p f at : ℕ) → ¬ IsMet Read old f at
      → entry_at (order_in new.orders p).entries f at ≡ entry_at (order_in old.orders p).entries f at

-- an event that is refused for lack of room evicts nothing
abbrev pub NoRoomEvictsNothing : Type 0
NoRoomEvictsNothing = (old new : SystemState) (e : Event) (p : ℕ) → Promises old e (Refused (NoRoom p)) new
    → EvictsNothing (IsRead (tables_of old.kernel) e) old.kernel.cache new.kernel.cache

-- an event for which there is no room evicts nothing if it is refused, whatever the refusal
abbrev pub RefusedWithoutRoomEvictsNothing : Type 0
RefusedWithoutRoomEvictsNothing = (old new : SystemState) (e : Event) (r : Reply) → Promises old e r new → IsRefused r
    → HasRoomFor old e ⊎ EvictsNothing (IsRead (tables_of old.kernel) e) old.kernel.cache new.kernel.cache

-- Each pool has the same list and chunks, each page the same state and generation, and each buffer the same count.
pub record KeepsPools (old new : Stored) : Type 0 where
  pub pools : (p : ℕ) → pool_in new.pools p ≡ pool_in old.pools p
  pub pages : (q : ℕ) → arena.entry_at new.arena q ≡ arena.entry_at old.arena q
  pub counts : (b : BufId) → count_of new b ≡ count_of old b

-- an event that is refused for lack of room changes nothing of the pools of a safe system
abbrev pub NoRoomKeepsPools : Type 0
NoRoomKeepsPools = (old new : SystemState) (e : Event) (p : ℕ) → IsSafe old → Promises old e (Refused (NoRoom p)) new
    → KeepsPools old.kernel.store new.kernel.store

-- A pool that is open before and after has the same chunks. One that is closed afterwards has all its chunks, or none.
pub record KeepsChunks (old new : Stored) : Type 0 where
  pub opens : (p : ℕ) → IsFalse (pool_in old.pools p).closed → IsFalse (pool_in new.pools p).closed
      → (pool_in new.pools p).chunks ≡ (pool_in old.pools p).chunks
  pub closes : (p : ℕ) → IsTrue (pool_in new.pools p).closed → HasAllOrNone old new p

-- each event leaves an open pool its chunks, and a closed one all of them or none, whatever the reply
abbrev pub EachStepKeepsChunks : Type 0
EachStepKeepsChunks = (old new : SystemState) (e : Event) (r : Reply) → Promises old e r new
    → KeepsChunks old.kernel.store new.kernel.store

-- a run from a safe system ends in a safe one; by the law on parts the system is safe at each moment
abbrev pub RunsStaySafe : Type 0
RunsStaySafe = (old new : SystemState) (es : List Event) (rs : List Reply) → Chain old es rs new → IsSafe old
    → IsSafe new

-- a run from an orderly machine ends in an orderly one, over any store; a new one is orderly (`iol_laws`,
-- `each_step_keeps_order`)
abbrev pub RunsStayOrderly : Type 0
RunsStayOrderly = (old new : SystemState) (es : List Event) (rs : List Reply) → Chain old es rs new
    → IsOrderly (machine_of old)
    → IsOrderly (machine_of new)

-- a run does not change whether a store is honest
abbrev pub RunsKeepHonesty : Type 0
RunsKeepHonesty = (old new : SystemState) (es : List Event) (rs : List Reply) → Chain old es rs new
    → new.disk.honest ≡ old.disk.honest

-- a buffer that is live before and after a run has the same bytes and pool, and no identity is used twice
abbrev pub RunsKeepBuffers : Type 0
RunsKeepBuffers = (old new : SystemState) (es : List Event) (rs : List Reply) → Chain old es rs new
    → Stays old.kernel.store new.kernel.store

-- each byte of an aggregate that no event of a run gives up keeps its place
abbrev pub RunsKeepPlaces : Type 0
RunsKeepPlaces = (old new : SystemState) (es : List Event) (rs : List Reply) → Chain old es rs new
    → ValuesStayOver (layout_of old.kernel) es (layout_of new.kernel)

-- each byte of an aggregate that no event of a run gives up is at the same address after the run as before
abbrev pub RunsKeepAddresses : Type 0
RunsKeepAddresses = (old new : SystemState) (es : List Event) (rs : List Reply) → Chain old es rs new
    → (d a : ℕ) (t : Text) → aggregate (machine_of old) d a ≡ Some t → IsFalse (list_any (λ e. gives_up e d a) es)
    → addresses_of new.kernel d a ≡ addresses_of old.kernel d a

-- an aggregate that no event of a run gives up keeps its value
abbrev pub RunsKeepValues : Type 0
RunsKeepValues = (old new : SystemState) (es : List Event) (rs : List Reply) → Chain old es rs new
    → ValuesStayOver (machine_of old) es (machine_of new)

-- after a run of calls that share, each byte is at the place that the calls' own meaning names, and each page and pool
-- is unchanged
pub record SharesOver (old : SystemState) (es : List Event) (rs : List Reply) (new : SystemState) : Type 0 where
  pub places : Run (layout_of old.kernel) es rs (layout_of new.kernel)
  pub arena : new.kernel.store.arena ≡ old.kernel.store.arena
  pub pools : new.kernel.store.pools ≡ old.kernel.store.pools

-- each event of a run is a sharing call at its moment
abbrev pub AllShare : (old : SystemState) (es : List Event) (rs : List Reply) (new : SystemState) → Chain old es rs new
    → Type 0
AllShare old [] rs new chain = ⊤
AllShare old (e ∷ es) (r ∷ rs) new chain = IsTrue (is_sharing (tables_of old.kernel) e)
    × AllShare chain.0 es rs new chain.2
AllShare old (e ∷ es) [] new chain = ⊤

-- a run of sharing calls copies nothing
abbrev pub RunsShare : Type 0
RunsShare = (old new : SystemState) (es : List Event) (rs : List Reply) → (chain : Chain old es rs new)
    → AllShare old es rs new chain → SharesOver old es rs new

-- Between any two events each page is unused, or is part of exactly one live buffer.
abbrev pub EachPageHasOneUse : Type 0
EachPageHasOneUse = (s : SystemState) → IsSafe s → (q : ℕ) → HasOneUse s.kernel.store.arena q

-- Between any two events each chunk that is taken is of exactly one pool.
abbrev pub EachChunkHasOnePool : Type 0
EachChunkHasOnePool = (s : SystemState) → IsSafe s → (c : ℕ) → c < chunk_count s.kernel.store.arena
    → IsTrue (is_taken s.kernel.store.arena c) → HasOnePool s.kernel.store c

-- The pool has returned its chunks, or a buffer in them is still held.
abbrev pub HasGivenBack : Stored → (p : ℕ) → Type 0
HasGivenBack s p = ((pool_in s.pools p).chunks ≡ []) ⊎ ((b : BufId) × IsLive s.arena b × IsInPool s p b × (0 < count_of s b))

-- Between any two events a closed pool has returned its chunks, as soon as no buffer in them is held.
abbrev pub ClosedPoolsGiveBack : Type 0
ClosedPoolsGiveBack = (s : SystemState) → IsSafe s → (p : ℕ) → IsTrue (pool_in s.kernel.store.pools p).closed
    → HasGivenBack s.kernel.store p

-- If no domain and no connection is live and no extent is left, every page that is not retired is free.
abbrev pub AllPagesComeFree : Type 0
AllPagesComeFree = (s : SystemState) → IsSafe s → IsOrderly (machine_of s) → IsLeft s → IsAllFree s.kernel.store
