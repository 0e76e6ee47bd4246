-- Preconditions of new descriptors: on a new pipe, of another domain, or on a waiting connection.
use Rattle.std.specs.Prelude.{◌≡◌, ℕ, ◌<◌, ◌==◌, ◌&&◌, not, [], Some, IsTrue, IsFalse}
use Rattle.iol_core.specs.NumberedLists.{taken}
use Rattle.iol_core.specs.State.{is_live}
use Rattle.iol_core.specs.Calls.Descriptors.{too_many_open, waiting}
use Rattle.iol_core.specs.declared.descriptors.Descriptor.{Descriptor}
use Rattle.iol_core.specs.declared.limits.TheConstants.{MAX_PIPES}
use Rattle.iol_kernel.specs.DomainAggregates.{Lives}
use Rattle.iol_kernel.specs.KernelState.{KernelState, machine_of}
use Rattle.iol_kernel.specs.OpenDescriptors.{IsOpenOn}

-- Between two events: a domain may get both ends of a new pipe.
pub record MayPipe (d : ℕ) (h : KernelState) : Type 0 where
  pub lives : Lives h d
  pub few : IsFalse (too_many_open (machine_of [] h) d 2)
  pub few_pipes : taken (machine_of [] h).pipes < MAX_PIPES

-- A gift of a domain's descriptor, which is open on x, to the domain e passes its tests, except for the test of access.
pub record MayGiveFd (d fd e : ℕ) (x : Descriptor) (h : KernelState) : Type 0 where
  pub held : IsOpenOn h d fd x
  pub to : IsTrue (is_live (machine_of [] h) e)
  pub few : IsFalse (not (d == e) && too_many_open (machine_of [] h) e 1)

-- A domain may accept this connection: it is the first one that waits for the domain.
pub record MayAccept (d c : ℕ) (h : KernelState) : Type 0 where
  pub lives : Lives h d
  pub few : IsFalse (too_many_open (machine_of [] h) d 1)
  pub waits : waiting (machine_of [] h) d ≡ Some c
