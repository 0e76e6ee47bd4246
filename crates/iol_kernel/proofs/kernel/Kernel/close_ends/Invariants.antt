use Rattle.std.proofs.Common.{◌≡◌, take, drop}
use Rattle.std.specs.Prelude.{fold}
use Rattle.iol_core.specs.Calls.Descriptors.{closed_on}
use Rattle.iol_kernel.specs.ClosedEnds.{AreTaken}
use Rattle.iol_kernel.specs.Kernel.{state_of}
use Rattle.iol_kernel.specs.KernelState.{objects_of}
use Rattle.iol_kernel.proofs.kernel.Kernel.close_ends.Given as goal
use Rattle.iol_kernel.specs.Calls.{Leaves}

abbrev pub invariant-loop-place : goal.invariant-loop-place
invariant-loop-place l = record {
  closed : Leaves (λ s. fold closed_on s (take l.place-index l.ends)) (state_of l.fn.self) (state_of l.self);
  domains : (state_of l.self).domains ≡ (state_of l.fn.self).domains;
  left : AreTaken (state_of l.fn.self).domains (objects_of (state_of l.self)) (drop l.place-index l.ends);
}
