-- The use of each page and each chunk.
use Rattle.std.specs.Prelude.{◌≡◌, ◌⊎◌, ℕ}
use Rattle.std.specs.List.{Contains}
use Rattle.iol_core.specs.declared.numbers.BufId.{BufId}
use Rattle.iol_arena.specs.State.{State, entry_at}
use Rattle.iol_arena.specs.Buffers.{IsLive, LiesOn}
use Rattle.iol_arena.specs.declared.pages.PageKind.TheVariants.{Free}
use Rattle.iol_pool.specs.Pools.{pool_in}
use Rattle.iol_hold.specs.StoreState.{Stored}

-- page q is unused: no live buffer has it
pub record IsUnused (s : State) (q : ℕ) : Type 0 where
  pub free : (entry_at s q).kind ≡ Free
  pub none : (b : BufId) → IsLive s b → ¬ LiesOn s b q

-- page q is part of one live buffer, and of no other
pub record IsInOneBuffer (s : State) (q : ℕ) : Type 0 where
  pub buf : BufId
  pub live : IsLive s buf
  pub on : LiesOn s buf q
  pub only : (b : BufId) → IsLive s b → LiesOn s b q → b ≡ buf

-- page q is unused, or part of exactly one live buffer
abbrev pub HasOneUse : State → (q : ℕ) → Type 0
HasOneUse s q = IsUnused s q ⊎ IsInOneBuffer s q

-- chunk c is of this pool, and of no other
pub record HasOnePool (s : Stored) (c : ℕ) : Type 0 where
  pub pool : ℕ
  pub has : Contains (pool_in s.pools pool).chunks c
  pub only : (p : ℕ) → Contains (pool_in s.pools p).chunks c → p ≡ pool
