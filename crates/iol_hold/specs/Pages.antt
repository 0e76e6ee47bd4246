-- The effect of any step on pages and chunks.
use Rattle.std.specs.Prelude.{◌≡◌, ◌⊎◌, ℕ, List, IsTrue, IsFalse}
use Rattle.std.specs.List.{Contains}
use Rattle.iol_arena.specs.State.{entry_at, page_count}
use Rattle.iol_arena.specs.Pages.{Raises}
use Rattle.iol_arena.specs.declared.pages.PageKind.TheVariants.{Free}
use Rattle.iol_pool.specs.Pools.{pool_in}
use Rattle.iol_hold.specs.Releases.{HasAllOrNone}
use Rattle.iol_hold.specs.StoreState.{Stored}

-- Buffers were made on these pages (in most steps on none): each of them was raised by one, and no other page was. Each
-- other page is unchanged, or is free now. An open pool keeps its chunks, and a closed one keeps all of them or none.
pub record KeepsPages (old new : Stored) (placed : List ℕ) : Type 0 where
  pub count : page_count new.arena ≡ page_count old.arena
  pub limit : new.arena.limit ≡ old.arena.limit
  pub raises : Raises old.arena new.arena placed
  pub others : (q : ℕ) → ¬ Contains placed q → ((entry_at new.arena q).kind ≡ (entry_at old.arena q).kind)
      ⊎ ((entry_at new.arena q).kind ≡ Free)
  pub chunks : (p : ℕ) → IsFalse (pool_in old.pools p).closed → IsFalse (pool_in new.pools p).closed
      → (pool_in new.pools p).chunks ≡ (pool_in old.pools p).chunks
  pub returned : (p : ℕ) → IsTrue (pool_in new.pools p).closed → HasAllOrNone old new p
