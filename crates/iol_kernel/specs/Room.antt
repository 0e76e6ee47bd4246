-- Clean extents of files are evicted to make room for new bytes.
use Rattle.std.specs.Prelude.{◌≡◌, ◌⊎◌, ◌↔◌, ℕ, ◌+◌, ◌≤◌, Bool, IsTrue, nat_le, List, length, Some, Result}
use Rattle.std.specs.Prelude.{Err, OnOk, IfErr, IsFalse}
use Rattle.iol_core.specs.State.{State}
use Rattle.iol_core.specs.Text.{Text}
use Rattle.iol_core.specs.Meaning.{Meaning}
use Rattle.iol_core.specs.declared.refusals.Refusal.{Refusal}
use Rattle.iol_core.specs.declared.refusals.Refusal.TheVariants.{NoRoom, Memory}
use Rattle.iol_arena.specs.State.{pages_for}
use Rattle.iol_back.specs.Disk.{Disk}
use Rattle.iol_hold.specs.Room.{free_of, has_room, pages_of}
use Rattle.iol_cache.specs.CacheState.{clean_held}
use Rattle.iol_cache.specs.Evictions.{EvictsAll, GivesUp}
use Rattle.iol_cache.specs.KeptCover.{KeepsDirty}
use Rattle.iol_cache.specs.PinnedPages.{pinned_beside}
use Rattle.iol_pool.specs.Pools.{pool_in}
use Rattle.iol_kernel.specs.FileCalls.{IsBackedBy, Serves, holding_of, with_slots}
use Rattle.iol_kernel.specs.Calls.{MakesBytes}
use Rattle.iol_kernel.specs.KernelState.{KernelState, machine_of, read_of, IsSound}
use Rattle.iol_kernel.specs.Readings.{Reading}

-- whether n more bytes fit in a pool, if necessary in place of clean extents
abbrev pub can_fit : KernelState → (pool n : ℕ) → Bool
can_fit h p n = nat_le (pinned_beside h.store (clean_held h.cache.files) p + pages_for n) (length (pages_of h.store p))

-- The system represents the same machine state; with a store that has the same bytes as the clean extents, this
-- includes the bytes of files.
pub record IsSame (old new : KernelState) : Type 0 where
  pub files : (disk : Disk) → IsBackedBy disk old → machine_of disk.slots new ≡ machine_of disk.slots old
  pub backed : (disk : Disk) → IsBackedBy disk old → IsBackedBy disk new
  pub beside : (slots : List (List ℕ)) → with_slots slots new ≡ with_slots slots old

-- Clean extents of a pool's files were evicted, in the order of eviction, until this many pages of the pool were free:
-- none if they were free already. Every other byte keeps its place, and the system represents the same machine state.
pub record MakesRoom (pool pages : ℕ) (old new : KernelState) : Type 0 where
  pub victims : EvictsAll pool (Some pages) (holding_of old) (holding_of new)
  pub gives_up : GivesUp (holding_of old) (holding_of new)
  pub rest : new ≡ record old { store = new.store; cache = new.cache }
  pub enough : pages ≤ length (free_of old.store pool) → new ≡ old
  pub keeps : KeepsDirty old.cache new.cache
  pub reads : (f : Reading) → read_of f new ≡ record (read_of f old) { slots = (read_of f new).slots }
  pub same : IsSame old new
  pub sound : IsSound new

-- Between two events: the pool is open, so new bytes may be placed in it.
pub record MayPlaceIn (pool : ℕ) (h : KernelState) : Type 0 where
  pub sound : IsSound h
  pub opened : IsFalse (pool_in h.store.pools pool).closed

-- The result of asking for this many free pages. Room was made exactly when these, and those that something other than
-- clean extents holds, are no more than the pool has; otherwise nothing changed.
pub record AsksRoom (pool pages : ℕ) (old : KernelState) (enough : Bool) (new : KernelState) : Type 0 where
  pub made : MakesRoom pool pages old new
  pub room : IsTrue enough
      ↔ (pinned_beside old.store (clean_held old.cache.files) pool + pages ≤ length (pages_of old.store pool))
  pub free : IsTrue enough → pages ≤ length (free_of new.store pool)
  pub refused : IsFalse enough → new ≡ old

-- The result of asking for room for n bytes. Room was made exactly when they fit; otherwise nothing changed.
pub record AsksToFit (pool n : ℕ) (old : KernelState) (enough : Bool) (new : KernelState) : Type 0 where
  pub made : MakesRoom pool (pages_for n) old new
  pub fits : can_fit old pool n ≡ enough
  pub room : IsTrue enough → IsTrue (has_room new.store pool n)
  pub refused : IsFalse enough → new ≡ old

-- Room was made for n bytes, and P holds for the state after that.
pub record AfterRoom (pool n : ℕ) (old : KernelState) (P : KernelState → Type 0) : Type 0 where
  pub roomy : KernelState
  pub room : MakesRoom pool (pages_for n) old roomy
  pub then : P roomy

-- A call whose n bytes fit in the pool was refused for lack of memory: clean extents may have been evicted to make room
-- for them.
pub record RefusedRoomy (pool n : ℕ) (old new : KernelState) (x : Refusal) : Type 0 where
  pub memory : x ≡ Memory
  pub fits : IsTrue (can_fit old pool n)
  pub room : MakesRoom pool (pages_for n) old new

-- A refusal, including NoRoom, before anything changed; or a refusal for lack of memory, only if the bytes fit: then
-- clean extents may have been evicted.
abbrev pub MayHaveEvicted : (pool n : ℕ) → (old new : KernelState) → Refusal → Type 0
MayHaveEvicted pool n old new x = (new ≡ old) ⊎ RefusedRoomy pool n old new x

-- A call that places n new bytes in a pool, if necessary in place of clean extents of files. It is the machine's step,
-- over any store. Room is made; then the lowest free pages of the pool are filled, and every other byte keeps its
-- place. NoRoom is returned only if the pages that something other than clean extents holds, and those of the bytes,
-- are more than the pool has; success and Memory only if they are not.
pub record Places {A : Type 0} (m : State → Meaning A) (put : State → Text → State) (pool n : ℕ) (old : KernelState)
    (r : Result A Refusal) (new : KernelState) : Type 0 where
  pub serves : (disk : Disk) → Serves m disk old r disk new
  pub made : OnOk r (AfterRoom pool n old (λ roomy. MakesBytes put pool n roomy new))
  pub refused : IfErr r (MayHaveEvicted pool n old new)
  pub room : OnOk r (IsTrue (can_fit old pool n))
  pub no_room : (p : ℕ) → r ≡ Err (NoRoom p) → IsFalse (can_fit old pool n)
  pub memory : r ≡ Err Memory → IsTrue (can_fit old pool n)
