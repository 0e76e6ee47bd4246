-- The state of a system, and the state of the copying machine that it represents.
use Rattle.std.specs.Prelude.{[]}
use Rattle.iol_core.specs.State.{State}
use Rattle.iol_back.specs.Disk.{Disk}
use Rattle.iol_kernel.specs.KernelState as held
use Rattle.iol_kernel.specs.KernelState.{KernelState}

-- the state that a system's calls work on, and the contract's view of the store under its files
pub record SystemState : Type 0 where
  pub kernel : KernelState
  pub disk : Disk

-- the copying machine's state that a system represents, with the bytes of files in the store
abbrev pub machine_of : SystemState → State
machine_of s = held.machine_of s.disk.slots s.kernel

-- the copying machine's state except for the bytes of files: domains, pools, pipes and connections, for any content of
-- the store
abbrev pub tables_of : KernelState → State
tables_of h = held.machine_of [] h

-- a system of a kernel state and a store
abbrev pub system_of : KernelState → Disk → SystemState
system_of h disk = record { kernel = h; disk = disk }
