-- References to the bytes of aggregates at their places in memory.
use Rattle.std.specs.Prelude.{◌≡◌, ℕ, List, length, None, Some, Result, IfOk, IfErr}
use Rattle.std.specs.List.{concat}
use Rattle.iol_core.specs.State.{State}
use Rattle.iol_core.specs.Meaning.{first}
use Rattle.iol_core.specs.Prelude.{show}
use Rattle.iol_core.specs.declared.refusals.Refusal.{Refusal}
use Rattle.iol_hold.specs.Prelude.{Located}
use Rattle.iol_kernel.specs.Calls.{RefusesShow}
use Rattle.iol_kernel.specs.KernelState.{KernelState}
use Rattle.iol_kernel.specs.LocatedParts.{Locates}

-- A domain's aggregate is given as parts, which in order are the bytes that the machine's `show` returns. It is refused
-- exactly as `show` is.
pub record LendsParts (s : State) (by agg : ℕ) (r : Result (List (List ℕ)) Refusal) : Type 0 where
  pub ok : IfOk r (λ parts. (first (show s by agg).refusals ≡ None) × (concat parts ≡ (show s by agg).answer))
  pub err : IfErr r (λ x. first (show s by agg).refusals ≡ Some x)

-- A domain's aggregate is given as its slices, in order, each at its address. Their bytes are those that the machine's
-- `show` returns. It is refused exactly as `show` is.
pub record LocatesParts (h : KernelState) (by agg : ℕ) (r : Result (List Located) Refusal) : Type 0 where
  pub ok : IfOk r (λ parts. Locates by agg parts h)
  pub err : IfErr r (λ x. RefusesShow by agg x h)

-- A domain's aggregate has as many bytes as the machine's `show` returns. It is refused exactly as `show` is.
pub record ReportsLength (s : State) (by agg : ℕ) (r : Result ℕ Refusal) : Type 0 where
  pub ok : IfOk r (λ n. (first (show s by agg).refusals ≡ None) × (n ≡ length (show s by agg).answer))
  pub err : IfErr r (λ x. first (show s by agg).refusals ≡ Some x)
