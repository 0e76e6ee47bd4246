-- A new system.
use Rattle.std.specs.Prelude.{◌≡◌, ◌⊎◌, ◌↔◌, ◌*◌, false, [], replicate, Result, Err, IfOk, IfErr}
use Rattle.iol_core.specs.Prelude.{IsInRange, new_state}
use Rattle.iol_core.specs.declared.configuration.Config.{Config}
use Rattle.iol_core.specs.declared.limits.TheConstants.{CHUNK_PAGES}
use Rattle.iol_core.specs.declared.refusals.Refusal.{Refusal}
use Rattle.iol_core.specs.declared.refusals.Refusal.TheVariants.{BadRange, Memory}
use Rattle.iol_arena.specs.Prelude.{no_entry}
use Rattle.iol_back.specs.Disk.{Disk}
use Rattle.iol_kernel.specs.Prelude.{slots_of}
use Rattle.iol_system.specs.Machine.{SystemState, machine_of}
use Rattle.iol_system.specs.Safe.{IsSafe}

-- A system of these sizes is made over a store; or one of the sizes is out of its range, or there is no memory.
pub record MakesSystem (config : Config) (under : Disk) (r : Result SystemState Refusal) : Type 0 where
  -- it is refused by `BadRange` exactly when a size is out of its range
  pub range : (r ≡ Err BadRange) ↔ (¬ IsInRange config)
  -- and otherwise only for lack of memory
  pub errors : IfErr r (λ e. (e ≡ BadRange) ⊎ (e ≡ Memory))
  -- it represents the copying machine's first state, with the store's slots
  pub new : IfOk r (λ s. machine_of s ≡ new_state (slots_of s.disk.slots))
  -- its store is the given one
  pub disk : IfOk r (λ s. s.disk ≡ under)
  -- it has as many pages as the sizes say, all unused
  pub entries : IfOk r (λ s. s.kernel.store.arena.entries ≡ replicate (config.chunks * CHUNK_PAGES) no_entry)
  -- as many chunks, none of them taken
  pub taken : IfOk r (λ s. s.kernel.store.arena.taken ≡ replicate config.chunks false)
  -- and their generation limit
  pub limit : IfOk r (λ s. s.kernel.store.arena.limit ≡ config.gen_limit)
  -- no sum is remembered
  pub sums : IfOk r (λ s. s.kernel.sums.entries ≡ [])
  -- and there is space for as many as the sizes say
  pub sum_limit : IfOk r (λ s. s.kernel.sums.limit ≡ config.sums)
  -- no extent of a file is in memory, so no pool has an order of eviction
  pub orders : IfOk r (λ s. s.kernel.cache.orders ≡ [])
  -- it is safe
  pub safe : IfOk r IsSafe
