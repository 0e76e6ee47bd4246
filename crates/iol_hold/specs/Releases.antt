-- The effect of a release on pages.
use Rattle.std.specs.Prelude.{◌≡◌, ◌⊎◌, ℕ, List, [], ◌∷◌, Some, None, IsFalse}
use Rattle.iol_core.specs.declared.numbers.BufId.{BufId}
use Rattle.iol_arena.specs.Firsts.{first_on}
use Rattle.iol_arena.specs.State.{State, HasRuns, entry_at, generation_at, page_count}
use Rattle.iol_arena.specs.declared.pages.PageKind as kind
use Rattle.iol_arena.specs.declared.pages.PageKind.TheVariants.{Free}
use Rattle.iol_pool.specs.Pools.{pool_in}
use Rattle.iol_hold.specs.Moves.{Moves, SameLists}
use Rattle.iol_hold.specs.StoreState.{Stored, Buffer, AllReclaimed, AllReclaimedBut, IsInPool, IsReclaimed, IsTidy}
use Rattle.iol_hold.specs.StoreState.{count_of}
use Rattle.iol_hold.specs.Texts.{AllReadable, bufs_of}
use Rattle.iol_hold.specs.declared.slices.Slice.{Slice}

-- the buffer that begins at page q, if one does
abbrev pub buf_at : State → ℕ → BufId
buf_at s p = record { page = p; generation = generation_at s p }

-- the pool has all chunks that it had, or no chunks
abbrev pub HasAllOrNone : (old new : Stored) → (p : ℕ) → Type 0
HasAllOrNone old new p = ((pool_in new.pools p).chunks ≡ (pool_in old.pools p).chunks)
    ⊎ ((pool_in new.pools p).chunks ≡ [])

-- Each page is unchanged, or was freed: then the buffer on it is no longer held. An open pool keeps its chunks, and a
-- closed one keeps all of them or none.
pub record FreesOnly (old new : Stored) : Type 0 where
  pub count : page_count new.arena ≡ page_count old.arena
  pub limit : new.arena.limit ≡ old.arena.limit
  pub incremented : (q : ℕ) → generation_at new.arena q ≡ generation_at old.arena q
  pub each : (q : ℕ) → ((entry_at new.arena q).kind ≡ (entry_at old.arena q).kind)
      ⊎ ((entry_at new.arena q).kind ≡ Free)
  pub freed : (q p : ℕ) → (entry_at new.arena q).kind ≡ Free → first_on (entry_at old.arena q).kind q ≡ Some p
      → count_of new (buf_at old.arena p) ≡ 0
  pub pools : (p : ℕ) → IsFalse (pool_in old.pools p).closed → pool_in new.pools p ≡ pool_in old.pools p
  pub chunks : (p : ℕ) → HasAllOrNone old new p
  pub runs : HasRuns old.arena.entries → HasRuns new.arena.entries

-- The holds of slices were released, except those of the slices that are left, and no list changed. If the slices could
-- be read, no closed pool keeps chunks whose pages are all empty, if none did before.
pub record Releases (s t : Stored) (slices left : List Slice) : Type 0 where
  pub moves : Moves s t (bufs_of slices) (bufs_of left)
  pub lists : SameLists s t
  pub frees : FreesOnly s t
  pub reclaims : AllReadable s slices → AllReclaimed s → AllReclaimed t

-- A buffer that was held once was freed. Only its own pool may now have chunks to return.
pub record FreesBuffer (s t : Stored) (b : BufId) : Type 0 where
  pub moves : Moves s t (b ∷ []) []
  pub pools : t.pools ≡ s.pools
  pub frees : FreesOnly s t
  pub others : (p : ℕ) → IsInPool s p b → AllReclaimed s → AllReclaimedBut p t
  pub tidy : IsTidy t

-- A pool returned its chunks, if it is closed and all their pages are empty.
pub record Reclaims (s t : Stored) (p : ℕ) : Type 0 where
  pub moves : Moves s t [] []
  pub lists : SameLists s t
  pub reclaimed : IsReclaimed t p
  pub reclaims : AllReclaimedBut p s → AllReclaimed t
  pub frees : FreesOnly s t
  pub tidy : IsTidy t

-- A hold was released. With the last hold of its buffer a closed pool returned its chunks, if all their pages are
-- empty.
pub record ReleasesHold (s t : Stored) (h : Buffer) : Type 0 where
  pub moves : Moves s t (h.buf ∷ []) []
  pub frees : FreesOnly s t
  pub lists : SameLists s t
  pub reclaimed : count_of s h.buf ≡ 1 → IsReclaimed t h.pool
  pub reclaims : IsInPool s h.pool h.buf → AllReclaimed s → AllReclaimed t
