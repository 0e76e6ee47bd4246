-- A new arena.
use Rattle.std.specs.Prelude.{◌≡◌, ◌⊎◌, ◌↔◌, ◌*◌, ℕ, false, replicate, Result, Err, IfOk, IfErr}
use Rattle.iol_core.specs.Prelude.{IsInRange}
use Rattle.iol_core.specs.declared.configuration.Config.{Config}
use Rattle.iol_core.specs.declared.limits.TheConstants.{CHUNK_PAGES}
use Rattle.iol_core.specs.declared.refusals.Refusal.{Refusal}
use Rattle.iol_core.specs.declared.refusals.Refusal.TheVariants.{BadRange, Memory}
use Rattle.iol_arena.specs.State.{State, no_entry}

-- the arena has this number of chunks, and no chunk is taken; all its pages are free and unraised, and `last` is their
-- last generation
pub record IsAllFree (s : State) (chunks last : ℕ) : Type 0 where
  pub entries : s.entries ≡ replicate (chunks * CHUNK_PAGES) no_entry
  pub taken : s.taken ≡ replicate chunks false
  pub limit : s.limit ≡ last

-- An arena is made as configured: no chunk is taken, and all pages are free and unraised. `BadRange` is returned
-- exactly if the configuration is out of its ranges. The only other error is `Memory`.
pub record MakesArena (config : Config) (r : Result State Refusal) : Type 0 where
  pub range : (r ≡ Err BadRange) ↔ (¬ IsInRange config)
  pub errors : IfErr r (λ e. (e ≡ BadRange) ⊎ (e ≡ Memory))
  pub all_free : IfOk r (λ s. IsAllFree s config.chunks config.gen_limit)
