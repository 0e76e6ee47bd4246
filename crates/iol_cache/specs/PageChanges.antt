-- The effects of a read or a write on pages.
use Rattle.std.specs.Prelude.{ℕ, List, take}
use Rattle.iol_hold.specs.Pages.{KeepsPages}
use Rattle.iol_hold.specs.Releases.{FreesOnly}
use Rattle.iol_hold.specs.Room.{free_of}
use Rattle.iol_hold.specs.StoreState.{Stored}

-- Room was made: some pages were freed. Then the lowest free pages of the pool were filled, each generation raised by
-- one. All others are unchanged or were freed, and an open pool keeps its chunks.
pub record FillsLowest (pool : ℕ) (old new : Stored) : Type 0 where
  pub roomy : Stored
  pub frees : FreesOnly old roomy
  pub count : ℕ
  pub pages : KeepsPages roomy new (take count (free_of roomy pool))

-- the pages that were filled
abbrev pub filled_pages : {pool : ℕ} {old new : Stored} → FillsLowest pool old new → List ℕ
filled_pages {pool = p} x = take x.count (free_of x.roomy p)
