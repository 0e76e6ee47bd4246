-- The invariant of a system between any two events.
use Rattle.iol_core.specs.Access.{HasAccess}
use Rattle.iol_core.specs.Positions.{ArePlaced}
use Rattle.iol_back.specs.Disk.{IfHonest}
use Rattle.iol_kernel.specs.FileCalls.{IsBackedBy}
use Rattle.iol_kernel.specs.KernelState.{IsSound}
use Rattle.iol_system.specs.Machine.{SystemState, machine_of}

-- A system is sound, and each of its domains may read all the bytes that it has, as the copying machine defines it. An
-- honest store has the same bytes as the clean extents in memory, and over one positions are within files.
pub record IsSafe (s : SystemState) : Type 0 where
  pub sound : IsSound s.kernel
  pub access : HasAccess (machine_of s)
  pub backed : IfHonest s.disk (IsBackedBy s.disk s.kernel)
  pub placed : IfHonest s.disk (ArePlaced (machine_of s))
