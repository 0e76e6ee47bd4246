-- Laws of runs of a world: consequences of a run on a system, for any store.
use Rattle.std.specs.Prelude.{◌≡◌, List}
use Rattle.iol_core.specs.declared.events.Event.{Event}
use Rattle.iol_core.specs.declared.events.Reply.{Reply}
use Rattle.iol_system.specs.Machine.{SystemState}
use Rattle.iol_system.specs.Promises.{Chain}

-- The events of processes and external events, with their replies: a chain of steps of the system. So all laws of the
-- system's runs apply to them.
pub record HasEvents (old new : SystemState) : Type 0 where
  pub events : List Event
  pub replies : List Reply
  pub chain : Chain old events replies new

-- A store that is honest before is honest after.
pub record KeepsHonesty (old new : SystemState) : Type 0 where
  pub same : new.disk.honest ≡ old.disk.honest
