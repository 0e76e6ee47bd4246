-- Calls that make, use, admit to and close pools: their preconditions and effects.
use Rattle.std.specs.Prelude.{◌≡◌, ℕ, ◌+◌, ◌<◌, ◌≤◌, ◌&&◌, Bool, length, true, false, List, [], ◌∷◌, ◌++◌, None, Result}
use Rattle.std.specs.Prelude.{Err, IfOk, IfErr, OnOk, OnErr, IsTrue, IsFalse}
use Rattle.std.specs.List.{list_all}
use Rattle.iol_core.specs.Meaning.{WantOfRoom}
use Rattle.iol_core.specs.Prelude.{first, with_numbered}
use Rattle.iol_core.specs.State.{State, is_live, is_pool, pool}
use Rattle.iol_core.specs.Calls.Pools.{admitting, distinct, has_place, is_busy, pool_create, set_pool}
use Rattle.iol_core.specs.declared.limits.TheConstants.{MAX_POOLS}
use Rattle.iol_core.specs.declared.refusals.Refusal.{Refusal}
use Rattle.iol_core.specs.declared.refusals.Refusal.TheVariants.{NoRoom}
use Rattle.iol_arena.specs.Chunks.{free_chunks}
use Rattle.iol_pool.specs.Pools.{AddsPool}
use Rattle.iol_kernel.specs.Calls.{KeepsPlaces, Leaves, Refuses}
use Rattle.iol_kernel.specs.KernelState.{KernelState, IsSound, machine_of, read_of}
use Rattle.iol_kernel.specs.Readings.{Reading}

-- A domain is live, and may place in the pool, or close it: the pool is open, and names the domain.
pub record MayUse (d p : ℕ) (h : KernelState) : Type 0 where
  pub passed : (f : Reading) → first (set_pool (read_of f h) d p).refusals ≡ None
  pub live : IsTrue (is_live (machine_of [] h) d)
  pub there : IsTrue (is_pool (machine_of [] h) p)

-- The result of testing whether a domain may place in the pool, or close it: success, or the refusal of `set_pool`.
pub record TestsUse {A : Type 0} (d p : ℕ) (h : KernelState) (r : Result A Refusal) : Type 0 where
  pub may : OnOk r (MayUse d p h)
  pub refused : IfErr r (λ x. Refuses (λ s. set_pool s d p) x h)

-- whether a domain and all domains of a list are live
abbrev pub are_all_live : State → (d : ℕ) → List ℕ → Bool
are_all_live s d list = is_live s d && list_all (λ e. is_live s e) list

-- A domain may make a pool of n chunks for these domains of a list, without duplicates.
pub record MayCreate (d n : ℕ) (list names : List ℕ) (h : KernelState) : Type 0 where
  pub passed : (f : Reading) → first (pool_create (read_of f h) d n list).refusals ≡ None
  pub few : (f : Reading) → length (read_of f h).pools < MAX_POOLS
  pub each_once : names ≡ distinct list

-- The result of testing whether a domain may make a pool of n chunks for a list: the domains without duplicates, or the
-- refusal.
pub record TestsCreate (d n : ℕ) (list : List ℕ) (h : KernelState) (r : Result (List ℕ) Refusal) : Type 0 where
  pub may : IfOk r (λ names. MayCreate d n list names h)
  pub refused : IfErr r (λ x. Refuses (λ s. pool_create s d n list) x h)

-- A pool of n chunks is added, for these domains. This succeeds only if n chunks are free, and NoRoom is returned only
-- if they are not. The only refusals are NoRoom and Memory, and they change nothing.
pub record Creates (n : ℕ) (names : List ℕ) (old : KernelState) (r : Result ℕ Refusal)
    (new : KernelState) : Type 0 where
  pub number : IfOk r (λ p. (f : Reading) → p ≡ length (read_of f old).pools + 1)
  pub added : OnOk r (Leaves (λ s.
      record s { pools = s.pools ++ record { domains = names; closed = false } ∷ [] }) old new)
  pub chunks : OnOk r (AddsPool old.store.arena new.store.arena old.store.pools new.store.pools n names)
  pub room : OnOk r (n ≤ length (free_chunks old.store.arena))
  pub no_room : (p : ℕ) → r ≡ Err (NoRoom p) → length (free_chunks old.store.arena) < n
  pub late : IfErr r (λ x. (f : Reading) → WantOfRoom (length (read_of f old).pools + 1) x)
  pub err : OnErr r (new ≡ old)

-- A domain makes a pool of n chunks for the domains of a list: the meaning, and the chunks of the pool. This succeeds
-- only if n chunks are free, and NoRoom is returned only if they are not.
pub record CreatesPool (d n : ℕ) (list : List ℕ) (old : KernelState) (r : Result ℕ Refusal)
    (new : KernelState) : Type 0 where
  pub create : KeepsPlaces (λ s. pool_create s d n list) old r new
  pub chunks : OnOk r (AddsPool old.store.arena new.store.arena old.store.pools new.store.pools n (distinct list))
  pub room : OnOk r (n ≤ length (free_chunks old.store.arena))
  pub no_room : (p : ℕ) → r ≡ Err (NoRoom p) → length (free_chunks old.store.arena) < n

-- Between two events: the pool's list names the domain, or has a free entry for it.
pub record MayAdmit (p d : ℕ) (h : KernelState) : Type 0 where
  pub sound : IsSound h
  pub there : IsTrue (is_pool (machine_of [] h) p)
  pub place : IsTrue (has_place (pool (machine_of [] h) p).domains d)

-- the state in which a pool's list also names the domain
abbrev pub with_pool_admitting : (p d : ℕ) → State → State
with_pool_admitting p d s = record s { pools = with_numbered s.pools p (admitting (pool s p) d) }

-- Between two events: the pool exists, and no file and no connection is of it.
pub record IsIdle (h : KernelState) (p : ℕ) : Type 0 where
  pub sound : IsSound h
  pub there : IsTrue (is_pool (machine_of [] h) p)
  pub idle : (f : Reading) → IsFalse (is_busy (read_of f h) p)

-- the state in which a pool is closed
abbrev pub with_pool_closed : (p : ℕ) → State → State
with_pool_closed p s = record s { pools = with_numbered s.pools p (record (pool s p) { closed = true }) }
