-- Stores that are made, and pools that are made and closed.
use Rattle.std.specs.Prelude.{◌≡◌, ◌≢◌, ◌⊎◌, ◌↔◌, ℕ, ◌+◌, ◌<◌, ◌≤◌, false, List, [], ◌∷◌, ◌++◌, length, map, Result}
use Rattle.std.specs.Prelude.{Err, IfOk, IfErr, OnOk, OnErr}
use Rattle.iol_core.specs.Configuration.{IsInRange}
use Rattle.iol_core.specs.Meaning.{WantOfRoom}
use Rattle.iol_core.specs.declared.configuration.Config.{Config}
use Rattle.iol_core.specs.declared.refusals.Refusal.{Refusal}
use Rattle.iol_core.specs.declared.refusals.Refusal.TheVariants.{BadRange, Memory, NoRoom}
use Rattle.iol_arena.specs.Prelude.{IsAllFree, free_chunks}
use Rattle.iol_pool.specs.Prelude.{AddsPool, pool_in, with_closed}
use Rattle.iol_hold.specs.Moves.{Moves, pool_meant}
use Rattle.iol_hold.specs.Pages.{KeepsPages}
use Rattle.iol_hold.specs.StoreState.{Stored, AllReclaimed, IsReclaimed, IsTidy}

-- A store is made as configured, without pools: no chunk is taken, and all pages are free and unraised. `BadRange` is
-- returned exactly if the configuration is out of its ranges. The only other error is `Memory`.
pub record MakesStore (config : Config) (r : Result Stored Refusal) : Type 0 where
  pub range : (r ≡ Err BadRange) ↔ (¬ IsInRange config)
  pub errors : IfErr r (λ e. (e ≡ BadRange) ⊎ (e ≡ Memory))
  pub all_free : IfOk r (λ s. IsAllFree s.arena config.chunks config.gen_limit)
  pub pools : IfOk r (λ s. s.pools ≡ [])
  pub tidy : IfOk r IsTidy
  pub reclaimed : IfOk r AllReclaimed

-- A pool of `count` chunks, the lowest free ones, was made for the domains of a list: its number is the next. No page
-- was raised, and each page is unchanged or free now; no hold was made or released, and no closed pool keeps chunks
-- whose pages are all empty, if none did before. An error changes nothing: `NoRoom`, only if fewer chunks are free, or
-- `Memory`.
pub record MakesPool (s t : Stored) (count : ℕ) (list : List ℕ) (r : Result ℕ Refusal) : Type 0 where
  pub number : IfOk r (λ n. n ≡ length s.pools + 1)
  pub added : OnOk r (map pool_meant t.pools ≡ map pool_meant s.pools ++ record { domains = list; closed = false } ∷ [])
  pub chunks : OnOk r (length (pool_in t.pools (length s.pools + 1)).chunks ≡ count)
  pub moves : OnOk r (Moves s t [] [])
  pub pools : OnOk r (AddsPool s.arena t.arena s.pools t.pools count list)
  pub reclaims : AllReclaimed s → AllReclaimed t
  pub pages : KeepsPages s t []
  pub room : OnOk r (count ≤ length (free_chunks s.arena))
  pub no_room : (p : ℕ) → r ≡ Err (NoRoom p) → length (free_chunks s.arena) < count
  pub late : IfErr r (WantOfRoom (length s.pools + 1))
  pub err : OnErr r (t ≡ s)

-- The pool is closed, and keeps no chunks whose pages are all empty; nor does any closed pool, if none did before. No
-- hold was released or made, no page was raised, each page is unchanged or free now, and no other pool changed.
pub record ClosesPool (s t : Stored) (p : ℕ) : Type 0 where
  pub closed : map pool_meant t.pools ≡ map pool_meant (with_closed s.pools p)
  pub moves : Moves s t [] []
  pub reclaimed : IsReclaimed t p
  pub reclaims : AllReclaimed s → AllReclaimed t
  pub pages : KeepsPages s t []
  pub others : (q : ℕ) → q ≢ p → pool_in t.pools q ≡ pool_in s.pools q
