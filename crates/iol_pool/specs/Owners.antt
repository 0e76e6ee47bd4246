-- Which pool has each chunk.
use Rattle.std.specs.Prelude.{◌≡◌, ℕ, ◌<◌, ◌≤◌, List, length, IsTrue}
use Rattle.std.specs.List.{All, Contains}
use Rattle.iol_core.specs.declared.limits.TheConstants.{MAX_CHUNKS}
use Rattle.iol_arena.specs.State.{State, chunk_count}
use Rattle.iol_arena.specs.Chunks.{is_taken}
use Rattle.iol_pool.specs.Pools.{Pool, pool_in}

-- the chunks of pools are in the arena and taken, and each taken chunk has exactly one pool
pub record AreOwned (s : State) (ps : List Pool) : Type 0 where
  pub within : (p c : ℕ) → Contains (pool_in ps p).chunks c → c < chunk_count s
  pub taken : (p c : ℕ) → Contains (pool_in ps p).chunks c → IsTrue (is_taken s c)
  pub single : (p q c : ℕ) → Contains (pool_in ps p).chunks c → Contains (pool_in ps q).chunks c → p ≡ q
  pub owner : (c : ℕ) → c < chunk_count s → IsTrue (is_taken s c) → (p : ℕ) × Contains (pool_in ps p).chunks c

-- these are the chunks of the pool, all in the arena, and at most MAX_CHUNKS
pub record AreChunksOf (s : State) (ps : List Pool) (p : ℕ) (cs : List ℕ) : Type 0 where
  pub value : cs ≡ (pool_in ps p).chunks
  pub within : All (λ c. c < chunk_count s) cs
  pub few : length cs ≤ MAX_CHUNKS
