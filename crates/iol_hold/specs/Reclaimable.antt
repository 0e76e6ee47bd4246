-- Pages of a pool that are free or would become free with the holds that a table counts.
use Rattle.std.specs.Prelude.{ℕ, ◌&&◌, Bool, true, nat_le, nat_lt, List, flat_map, slice_index, Option, Some, None}
use Rattle.std.specs.List.{filter}
use Rattle.iol_arena.specs.State.{entry_at, generation_at}
use Rattle.iol_arena.specs.Chunks.{chunk_pages}
use Rattle.iol_arena.specs.Firsts.{first_on}
use Rattle.iol_pool.specs.Pools.{pool_in}
use Rattle.iol_hold.specs.StoreState.{Stored}

-- the buffer that begins there has only the holds that the table counts
abbrev pub is_spared : Stored → (spared : List ℕ) → Option ℕ → Bool
is_spared s spared None = true
is_spared s spared (Some p) = nat_le (slice_index s.counts p) (slice_index spared p)

-- the page is free or would become free: its generation is not the last, and the buffer on it, if any, has only counted
-- holds
abbrev pub is_reclaimable : Stored → (spared : List ℕ) → ℕ → Bool
is_reclaimable s spared q = nat_lt (generation_at s.arena q) s.arena.limit
    && is_spared s spared (first_on (entry_at s.arena q).kind q)

-- such pages of these chunks, in order
abbrev pub reclaimable_in : Stored → (spared chunks : List ℕ) → List ℕ
reclaimable_in s spared cs = filter (is_reclaimable s spared) (flat_map chunk_pages cs)

-- such pages of a pool, in order
abbrev pub reclaimable_pages : Stored → (spared : List ℕ) → (pool : ℕ) → List ℕ
reclaimable_pages s spared p = reclaimable_in s spared (pool_in s.pools p).chunks
