-- Naming and opening files: the preconditions, and the tables of files afterwards.
use Rattle.std.specs.Prelude.{◌≡◌, ℕ, ◌+◌, ◌<◌, ◌++◌, ◌∷◌, bytes_eq, is_some, List, [], length, Option}
use Rattle.std.specs.Prelude.{IfSome, Result, IfOk, OnOk, OnErr, IsTrue, IsFalse}
use Rattle.std.specs.List.{list_any}
use Rattle.iol_core.specs.NumberedLists.{is_numbered}
use Rattle.iol_core.specs.State as machine
use Rattle.iol_core.specs.Calls.Descriptors.{too_many_open}
use Rattle.iol_core.specs.Calls.Files.{file_called, file_new}
use Rattle.iol_core.specs.declared.limits.TheConstants.{MAX_FILES}
use Rattle.iol_arena.specs.State.{page_count}
use Rattle.iol_pool.specs.Pools.{pool_in}
use Rattle.iol_hold.specs.StoreState.{Stored, IsStill, IsTidy}
use Rattle.iol_cache.specs.Cache.{cached_of}
use Rattle.iol_cache.specs.CacheState.{new_file, order_in}
use Rattle.iol_cache.specs.Sound as cache
use Rattle.iol_kernel.specs.Calls.{AddsFile}
use Rattle.iol_kernel.specs.FileLengths.{HasFileFor}
use Rattle.iol_kernel.specs.Files.{with_named}
use Rattle.iol_kernel.specs.KernelState.{KernelState, IsSound, machine_of, read_of}
use Rattle.iol_kernel.specs.Readings.{Reading}
use Rattle.iol_kernel.specs.declared.files.Files.{Files}

-- There is no file, no extent in memory, and no order of eviction. Over any store of this many pages that is tidy and
-- still, the cache is sound.
pub record HasNone (pages : ℕ) (x : Files) : Type 0 where
  pub none : x.table.files ≡ []
  pub cached : (cached_of x.cache).files ≡ []
  pub orders : (cached_of x.cache).orders ≡ []
  pub sound : (s : Stored) → page_count s.arena ≡ pages → IsTidy s → IsStill s.arena
      → cache.IsSound s (cached_of x.cache)

-- A file of this name may be added after the present ones: none of them has the name, and a slot is free.
pub record MayName (name : List ℕ) (x : Files) : Type 0 where
  pub unnamed : IsFalse (list_any (λ f. bytes_eq f.name name) x.table.files)
  pub few : length (cached_of x.cache).files < MAX_FILES

-- A file of this name and pool was added in the next slot, with no extent in memory; after a refusal, files and cache
-- are unchanged. Each order of eviction is unchanged, and the cache stays sound over a store in which the pool is open.
pub record AddsNamed {E : Type 0} (name : List ℕ) (pool : ℕ) (old : Files) (r : Result ℕ E) (new : Files) : Type 0 where
  pub number : IfOk r (λ n. n ≡ length (cached_of old.cache).files + 1)
  pub list : OnOk r (new.table.files ≡ with_named old.table.files name pool)
  pub cached : OnOk r ((cached_of new.cache).files ≡ (cached_of old.cache).files ++ new_file pool ∷ [])
  pub orders : (p : ℕ) → order_in (cached_of new.cache).orders p ≡ order_in (cached_of old.cache).orders p
  pub sound : (s : Stored) → cache.IsSound s (cached_of old.cache) → IsFalse (pool_in s.pools pool).closed
      → cache.IsSound s (cached_of new.cache)
  pub err_list : OnErr r (new.table.files ≡ old.table.files)
  pub err_cache : OnErr r (cached_of new.cache ≡ cached_of old.cache)

-- A file may be added in the next slot, under a name that no other file has, in a pool that is open.
pub record MayAddFile (name : List ℕ) (pool : ℕ) (h : KernelState) : Type 0 where
  pub sound : IsSound h
  pub few : length (machine_of [] h).files < MAX_FILES
  pub unnamed : IsFalse (is_some (file_called (machine_of [] h) name))
  pub opened : IsFalse (machine.pool (machine_of [] h) pool).closed

-- A file of this name and pool was added in the next slot; or there was no memory, and nothing changed.
pub record TriesFile {E : Type 0} (d : ℕ) (name : List ℕ) (pool : ℕ) (old : KernelState) (r : Result ℕ E)
    (new : KernelState) : Type 0 where
  pub done : IfOk r (λ n. AddsFile (λ s. file_new s d name pool) old n new)
  pub err : OnErr r (new ≡ old)

-- The result of looking for the file of a name: it is found if it exists.
pub record FindsNamed (name : List ℕ) (h : KernelState) (r : Option ℕ) : Type 0 where
  pub called : (f : Reading) → r ≡ file_called (read_of f h) name
  pub there : IfSome r (λ n. IsTrue (is_numbered h.files n))

-- A live domain may have one more descriptor, on a file that exists.
pub record MayOpenFile (d f : ℕ) (h : KernelState) : Type 0 where
  pub has : HasFileFor h d f
  pub few : IsFalse (too_many_open (machine_of [] h) d 1)
