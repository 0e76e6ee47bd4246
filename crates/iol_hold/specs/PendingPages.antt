-- Pending pages: reserved, and not published yet.
use Rattle.std.specs.Prelude.{◌≡◌, ℕ, ◌<◌, ◌≤◌, List, [], ◌∷◌, length, slice_set, IsTrue, IsFalse}
use Rattle.std.specs.List.{Contains}
use Rattle.iol_arena.specs.State.{State, entry_at, pages_for}
use Rattle.iol_arena.specs.Chunks.{free_pages, usable}
use Rattle.iol_core.specs.declared.numbers.BufId.{BufId}
use Rattle.iol_arena.specs.Buffers.{Grows, IsUnraised}
use Rattle.iol_arena.specs.Prelude.{IsReserved}
use Rattle.iol_arena.specs.Pages.{IsSameBut}
use Rattle.iol_arena.specs.Parts.{part_pages}
use Rattle.iol_arena.specs.declared.pages.Part.{Part}
use Rattle.iol_arena.specs.declared.pages.PageKind.TheVariants.{Pending}
use Rattle.iol_arena.specs.declared.pages.Reservation.{Reservation}
use Rattle.iol_pool.specs.Pools.{pool_in}
use Rattle.iol_hold.specs.StoreState.{Stored, IsStill}
use Rattle.iol_hold.specs.Moves.{Counts}
use Rattle.iol_hold.specs.Room.{has_room, lowest_of, others_of, free_of}

-- no page is pending except those of these parts
pub record PendingOn (s : State) (ps : List Part) : Type 0 where
  pub each : (q : ℕ) → (entry_at s q).kind ≡ Pending → Contains (part_pages ps) q

-- No buffer was made or freed, and no page is pending except those of these parts, if that was so before.
pub record Fills (old new : Stored) (ps : List Part) : Type 0 where
  pub counts : Counts old new [] []
  pub grows : Grows old.arena new.arena
  pub unraised : IsUnraised old.arena new.arena
  pub pools : new.pools ≡ old.pools
  pub waits : PendingOn old.arena ps → PendingOn new.arena ps

-- n bytes may be placed in a pool: it is open, and n is not 0.
pub record MayPlace (s : Stored) (pool n : ℕ) : Type 0 where
  pub some : 0 < n
  pub opened : IsFalse (pool_in s.pools pool).closed

-- The parts of a reservation are the lowest free pages of a pool that n bytes need, and are pending.
pub record Reserves (old new : Stored) (pool n : ℕ) (r : Reservation) : Type 0 where
  pub reserved : IsReserved new.arena r
  pub some : 0 < length r.parts.items
  pub pages : part_pages r.parts.items ≡ lowest_of old pool n
  pub free : free_pages new.arena (pool_in old.pools pool).chunks ≡ others_of old pool n
  pub fills : Fills old new r.parts.items
  pub others : IsSameBut (part_pages r.parts.items) old.arena new.arena
  pub room : IsTrue (has_room old pool n)
  pub enough : pages_for n ≤ length (free_of old pool)

-- The parts are no longer pending: these buffers were made on them, each held once, or none.
pub record Publishes (old new : Stored) (ps : List Part) (given : List BufId) : Type 0 where
  pub counts : Counts old new [] given
  pub grows : Grows old.arena new.arena
  pub pools : new.pools ≡ old.pools
  pub still : PendingOn old.arena ps → IsStill new.arena

-- counts in which each of these buffers is held once
abbrev pub all_held : List ℕ → List BufId → List ℕ
all_held counts [] = counts
all_held counts (b ∷ bs) = all_held (slice_set counts b.page 1) bs

-- if n bytes need all pages of the parts, the same pages are free before and after
pub record FreesNone (old new : State) (ps : List Part) (n : ℕ) : Type 0 where
  pub each : length (part_pages ps) ≡ pages_for n → (q : ℕ) → usable new q ≡ usable old q
