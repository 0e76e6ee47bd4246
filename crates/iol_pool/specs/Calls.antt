-- The effect of calls on pools and their chunks, and the page counts of a pool.
use Rattle.std.specs.Prelude.{◌≡◌, ℕ, ◌+◌, ◌*◌, ◌<◌, ◌≤◌, List, length, Result, Err, IfOk, OnOk, OnErr}
use Rattle.iol_core.specs.declared.limits.TheConstants.{CHUNK_PAGES}
use Rattle.iol_arena.specs.Prelude.{State, free_chunks, free_pages, retired_pages}
use Rattle.iol_arena.specs.declared.pages.Unfilled.{Unfilled}
use Rattle.iol_arena.specs.declared.pages.Unfilled.TheVariants.{NoRoom}
use Rattle.iol_pool.specs.Owners.{AreOwned}
use Rattle.iol_pool.specs.Pools.{AddsPool, Pool, pool_in, reclaimed, reclaimed_arena}
use Rattle.iol_pool.specs.declared.report.PoolReport.{PoolReport}

-- A pool of n chunks, the lowest free ones, was made for the domains of a list, under the next number. An error changes
-- nothing, and `NoRoom` is returned only if fewer chunks are free. Each taken chunk has exactly one pool.
pub record CreatesPool (s t : State) (old new : List Pool) (n : ℕ) (list : List ℕ) (r : Result ℕ Unfilled) :
    Type 0 where
  pub number : IfOk r (λ p. p ≡ length old + 1)
  pub added : OnOk r (AddsPool s t old new n list)
  pub enough : OnOk r (n ≤ length (free_chunks s))
  pub no_room : r ≡ Err NoRoom → length (free_chunks s) < n
  pub err : OnErr r (new ≡ old)
  pub err_arena : OnErr r (t ≡ s)
  pub owned : AreOwned t new

-- The chunks of pool p were returned, if it is closed and all their pages are empty. Each taken chunk has exactly one
-- pool.
pub record ReclaimsPool (s t : State) (old new : List Pool) (p : ℕ) : Type 0 where
  pub pools : new ≡ reclaimed s old p
  pub arena : t ≡ reclaimed_arena s old p
  pub owned : AreOwned t new

-- the pages of pool p, counted: all, those that may be used, and those that are retired
pub record ReportsPool (s : State) (ps : List Pool) (p : ℕ) (r : PoolReport) : Type 0 where
  pub pool : r.pool ≡ p
  pub pages : r.pages ≡ CHUNK_PAGES * length (pool_in ps p).chunks
  pub free : r.free ≡ length (free_pages s (pool_in ps p).chunks)
  pub retired : r.retired ≡ length (retired_pages s (pool_in ps p).chunks)
