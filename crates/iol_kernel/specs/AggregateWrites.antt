-- A write of an aggregate by reference: its preconditions and tests.
use Rattle.std.specs.Prelude.{◌≡◌, ℕ, [], None, Result, Err, IfOk, IfErr, IsFalse}
use Rattle.iol_core.specs.Calls.Aggregates.{lacks_agg}
use Rattle.iol_core.specs.Calls.Writes.{iol_write}
use Rattle.iol_core.specs.Meaning.{first}
use Rattle.iol_core.specs.declared.descriptors.Descriptor.{Descriptor}
use Rattle.iol_core.specs.declared.refusals.Refusal.{Refusal}
use Rattle.iol_kernel.specs.Calls.{CarriesOut}
use Rattle.iol_kernel.specs.KernelState.{KernelState, machine_of, read_of}
use Rattle.iol_kernel.specs.OpenDescriptors.{IsOpenOn}
use Rattle.iol_kernel.specs.Readings.{Reading}

-- A domain's aggregate may be written to its descriptor, which is open on `target`.
pub record MayWriteAgg (d fd a : ℕ) (target : Descriptor) (h : KernelState) : Type 0 where
  pub held : IsOpenOn h d fd target
  pub there : IsFalse (lacks_agg (machine_of [] h) d a)
  pub passed : (f : Reading) → first (iol_write (read_of f h) d fd a).refusals ≡ None

-- A write of an aggregate was tested: the descriptor's object, or the refusal.
pub record TestsAgg (d fd a : ℕ) (h : KernelState) (r : Result Descriptor Refusal) : Type 0 where
  pub may : IfOk r (λ x. MayWriteAgg d fd a x h)
  pub refused : IfErr r (λ x. CarriesOut (λ s. iol_write s d fd a) h (Err x) h)
