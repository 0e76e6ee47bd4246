-- A new system.
use Rattle.std.specs.Prelude.{◌≡◌, ◌⊎◌, ◌↔◌, ◌*◌, ℕ, false, List, [], replicate, Result, Err, IfOk, IfErr}
use Rattle.iol_core.specs.Prelude.{IsInRange, new_state}
use Rattle.iol_core.specs.declared.configuration.Config.{Config}
use Rattle.iol_core.specs.declared.limits.TheConstants.{CHUNK_PAGES}
use Rattle.iol_core.specs.declared.refusals.Refusal.{Refusal}
use Rattle.iol_core.specs.declared.refusals.Refusal.TheVariants.{BadRange, Memory}
use Rattle.iol_arena.specs.Prelude.{no_entry}
use Rattle.iol_kernel.specs.Kernel.{state_of}
use Rattle.iol_kernel.specs.KernelState.{IsSound, machine_of}
use Rattle.iol_kernel.specs.Readings.{slots_of}
use Rattle.iol_kernel.specs.declared.kernel.Kernel.{Kernel}

-- A kernel is made with the configured sizes, and represents the copying machine's first state. All its pages are free
-- with generation 0, no chunk is taken, no sum is remembered, and no pool has an order of eviction. It is refused if
-- the configuration is out of its ranges, and for lack of memory.
pub record MakesKernel (config : Config) (r : Result Kernel Refusal) : Type 0 where
  pub range : (r ≡ Err BadRange) ↔ (¬ IsInRange config)
  pub errors : IfErr r (λ e. (e ≡ BadRange) ⊎ (e ≡ Memory))
  pub new : IfOk r (λ k. (stored : List (List ℕ)) → machine_of stored (state_of k) ≡ new_state (slots_of stored))
  pub entries : IfOk r (λ k. k.store.arena.entries ≡ replicate (config.chunks * CHUNK_PAGES) no_entry)
  pub taken : IfOk r (λ k. k.store.arena.taken ≡ replicate config.chunks false)
  pub limit : IfOk r (λ k. k.store.arena.limit ≡ config.gen_limit)
  pub sums : IfOk r (λ k. k.sums.entries ≡ [])
  pub sum_limit : IfOk r (λ k. k.sums.limit ≡ config.sums)
  pub orders : IfOk r (λ k. (state_of k).cache.orders ≡ [])
  pub sound : IfOk r (λ k. IsSound (state_of k))
