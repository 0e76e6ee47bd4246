-- A store in contracts: pages, pools, and the number of holds on each buffer.
use Rattle.std.specs.Prelude.{◌≡◌, ◌≢◌, ℕ, ◌/◌, ◌<◌, ◌⊎◌, List, [], map, slice_index, slice_set}
use Rattle.std.specs.Prelude.{IsTrue, if◌then◌else◌, ◌==◌}
use Rattle.std.specs.List.{Contains}
use Rattle.iol_core.specs.declared.limits.TheConstants.{CHUNK_PAGES}
use Rattle.iol_core.specs.declared.numbers.BufId.{BufId}
use Rattle.iol_arena.specs.State.{State, HasRuns, entry_at, kind_head}
use Rattle.iol_arena.specs.Buffers.{IsLive, LiesOn, SharesNoPage}
use Rattle.iol_arena.specs.declared.pages.Entry.{Entry}
use Rattle.iol_arena.specs.declared.pages.PageKind.TheVariants.{Free, Pending}
use Rattle.iol_pool.specs.Owners.{AreOwned}
use Rattle.iol_pool.specs.Pools.{Pool, pool_in, goes_back}

-- the pages, the pools, and for each page the number of holds on the buffer that begins there
pub record Stored : Type 0 where
  pub arena : State
  pub pools : List Pool
  pub counts : List ℕ

-- a buffer, and the pool of its bytes
pub record Buffer : Type 0 where
  pub pool : ℕ
  pub buf : BufId

-- these buffers, of one pool
abbrev pub held_in : (pool : ℕ) → List BufId → List Buffer
held_in p bufs = map (λ b. record { pool = p; buf = b }) bufs

-- the identities of these buffers
abbrev pub held_bufs : List Buffer → List BufId
held_bufs holds = map (λ h. h.buf) holds

-- n if the buffer of generation g begins at the page, else 0
abbrev pub count_in : Entry → (n g : ℕ) → ℕ
count_in e n g = if kind_head e.kind then (if e.generation == g then n else 0) else 0

-- the number of holds on the buffer: 0 if it is not live
unfoldable pub count_of : Stored → BufId → ℕ
count_of s b = count_in (entry_at s.arena b.page) (slice_index s.counts b.page) b.generation

-- the buffer is in a chunk of the pool
abbrev pub IsInPool : Stored → (p : ℕ) → BufId → Type 0
IsInPool s p b = Contains (pool_in s.pools p).chunks (b.page / CHUNK_PAGES)

-- the pool has no chunks that it should have returned
abbrev pub IsReclaimed : Stored → (p : ℕ) → Type 0
IsReclaimed s p = IsTrue (goes_back s.arena s.pools p) → (pool_in s.pools p).chunks ≡ []

-- no closed pool keeps chunks whose pages are all empty
pub record AllReclaimed (s : Stored) : Type 0 where
  pub each : (p : ℕ) → IsReclaimed s p

-- no closed pool except one keeps chunks whose pages are all empty
pub record AllReclaimedBut (but : ℕ) (s : Stored) : Type 0 where
  pub each : (p : ℕ) → p ≢ but → IsReclaimed s p

-- page q is part of a live buffer
abbrev pub IsInBuffer : State → (q : ℕ) → Type 0
IsInBuffer s q = (b : BufId) × IsLive s b × LiesOn s b q

-- page q is empty, or pending, or part of a live buffer
abbrev pub IsPlaced : State → (q : ℕ) → Type 0
IsPlaced s q = ((entry_at s q).kind ≡ Free) ⊎ ((entry_at s q).kind ≡ Pending) ⊎ IsInBuffer s q

-- Every live buffer is held and is in one chunk, each page is empty, is pending or is in exactly one live buffer, and
-- each taken chunk has exactly one pool.
pub record IsTidy (s : Stored) : Type 0 where
  pub held : (b : BufId) → IsLive s.arena b → 0 < count_of s b
  pub placed : (q : ℕ) → IsPlaced s.arena q
  pub alone : SharesNoPage s.arena
  pub runs : HasRuns s.arena.entries
  pub owned : AreOwned s.arena s.pools

-- no page is pending
pub record IsStill (s : State) : Type 0 where
  pub each : (q : ℕ) → (entry_at s q).kind ≢ Pending

abbrev pub with_arena : Stored → State → Stored
with_arena s a = record { arena = a; pools = s.pools; counts = s.counts }

abbrev pub with_pools : Stored → List Pool → Stored
with_pools s ps = record { arena = s.arena; pools = ps; counts = s.counts }

abbrev pub with_count : Stored → (page n : ℕ) → Stored
with_count s p n = record { arena = s.arena; pools = s.pools; counts = slice_set s.counts p n }

-- The count of a page was set to n, and nothing else changed.
pub record SetsCount (s t : Stored) (page n : ℕ) : Type 0 where
  pub set : t ≡ with_count s page n
  pub tidy : IsTidy t
