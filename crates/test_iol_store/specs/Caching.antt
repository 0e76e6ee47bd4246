-- Stores and caches of the tests.
use Rattle.std.specs.Prelude.{◌≡◌, [], IsTrue}
use Rattle.iol_core.specs.NumberedLists.{is_numbered}
use Rattle.iol_arena.specs.State.{page_count}
use Rattle.iol_hold.specs.StoreState.{Stored, IsTidy, IsStill}
use Rattle.iol_cache.specs.CacheState.{Cached, held}
use Rattle.iol_cache.specs.Sound.{IsSound}

-- a cache over 32 pages may begin here
pub record IsReady (s : Stored) : Type 0 where
  pub pages : page_count s.arena ≡ 32
  pub tidy : IsTidy s
  pub still : IsStill s.arena

-- a sound cache with a file of which no byte is in memory
pub record HasNewFile (s : Stored) (c : Cached) : Type 0 where
  pub sound : IsSound s c
  pub file : IsTrue (is_numbered c.files 1)
  pub none : held c.files ≡ []
