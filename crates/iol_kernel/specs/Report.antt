-- The content of a report.
use Rattle.std.specs.Prelude.{ℕ, ◌≡◌, ◌*◌, ◌==◌, Bool, not, List, map, length, Result, IfOk}
use Rattle.std.specs.List.{filter, range_with_len}
use Rattle.iol_arena.specs.Buffers.{SharesNoPage, live_pages}
use Rattle.iol_arena.specs.Chunks.{free_pages, retired_pages}
use Rattle.iol_pool.specs.Pools.{pool_in}
use Rattle.iol_pool.specs.declared.report.PoolReport.{PoolReport}
use Rattle.iol_hold.specs.StoreState.{Stored}
use Rattle.iol_cache.specs.CacheState.{dirty_in_all, extents_in_all}
use Rattle.iol_kernel.specs.KernelState.{KernelState}
use Rattle.iol_kernel.specs.declared.report.Report.{Report}

-- the chunks that a pool has
abbrev pub chunks_in : Stored → (p : ℕ) → List ℕ
chunks_in s p = (pool_in s.pools p).chunks

-- whether the pool still has its chunks
abbrev pub stands : Stored → (p : ℕ) → Bool
stands s p = not (length (chunks_in s p) == 0)

-- a pool's pages: all pages, the usable ones, and the retired ones
abbrev pub pool_report : Stored → (p : ℕ) → PoolReport
pool_report s p = record {
  pool = p;
  pages = 16 * length (chunks_in s p);
  free = length (free_pages s.arena (chunks_in s p));
  retired = length (retired_pages s.arena (chunks_in s p));
}

-- the first n pools, except those whose chunks were returned
abbrev pub reports_of : Stored → (n : ℕ) → List PoolReport
reports_of s n = map (pool_report s) (filter (stands s) (range_with_len 1 n))

-- the report has the counts of the system
pub record Counts (h : KernelState) (r : Report) : Type 0 where
  pub pools : r.pools.items ≡ reports_of h.store (length h.store.pools)
  pub buffers : r.buffers ≡ length (live_pages h.store.arena)
  pub extents : r.extents ≡ extents_in_all h.cache.files
  pub dirty : r.dirty ≡ dirty_in_all h.cache.files

-- The result of asking for a report: one with the counts of the system, if there is memory for it. Whatever the result,
-- no two live buffers share a page.
pub record Reports {E : Type 0} (h : KernelState) (r : Result Report E) : Type 0 where
  pub counts : IfOk r (Counts h)
  pub alone : SharesNoPage h.store.arena
