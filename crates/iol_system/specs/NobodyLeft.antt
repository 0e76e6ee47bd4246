-- The state in which no domain, no connection and no extent is left: all pages are free.
use Rattle.std.specs.Prelude.{◌≡◌, ℕ, not, [], IsTrue, IsFalse}
use Rattle.std.specs.List.{filter}
use Rattle.iol_core.specs.State.{is_live}
use Rattle.iol_arena.specs.Chunks.{spent, usable}
use Rattle.iol_hold.specs.Room.{free_of, pages_of}
use Rattle.iol_hold.specs.StoreState.{Stored}
use Rattle.iol_cache.specs.CacheState.{extents_in_all}
use Rattle.iol_system.specs.Machine.{SystemState, machine_of}

-- no domain and no connection is live, and no extent of a file is left
pub record IsLeft (s : SystemState) : Type 0 where
  pub domains : (d : ℕ) → IsFalse (is_live (machine_of s) d)
  pub conns : (machine_of s).conns ≡ []
  pub extents : extents_in_all s.kernel.cache.files ≡ 0

-- Every page that is not retired is free, whether its chunk is a pool's or not. So the free pages of each pool are all
-- its pages, except for those that are retired.
pub record IsAllFree (s : Stored) : Type 0 where
  pub every : (q : ℕ) → IsFalse (spent s.arena q) → IsTrue (usable s.arena q)
  pub each : (p : ℕ) → free_of s p ≡ filter (λ q. not (spent s.arena q)) (pages_of s p)
