-- The world of a site that was set up in a new machine, before its first turn.
use Rattle.std.specs.Prelude.{◌≡◌, ℕ, List, map}
use Rattle.iol_proc.specs.World.{process_slot_of}
use Rattle.iol_proc.specs.declared.process_slot.ProcessSlot.{ProcessSlot}
use Rattle.flash_cgi.specs.declared.worker.Worker.{Worker}
use Rattle.flash_laws.specs.World.Consistency.{Actor}
use Rattle.flash_lite.specs.Setup.{AreActors}
use Rattle.flash_lite.specs.declared.site.Site.{Site}

-- the processes of a site, each with Done as its last reply
pub record AreInSlots (s : Site) (process_slots : List (ProcessSlot (Actor Worker))) : Type 0 where
  pub actors : List (ℕ × Actor Worker)
  pub are : AreActors s actors
  pub process_slots_are : process_slots ≡ map process_slot_of actors
