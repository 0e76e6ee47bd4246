-- The world of a site that was set up in a new machine, with scripts or without, before its first turn.
use Rattle.std.specs.Prelude.{◌≡◌, ◌≤◌, ℕ, List, length, IsTrue}
use Rattle.iol_back.specs.Disk.{IfHonest}
use Rattle.iol_core.specs.State.{State, new_state}
use Rattle.iol_core.specs.declared.limits.TheConstants.{MAX_FILES}
use Rattle.iol_proc.specs.World.{WorldState}
use Rattle.iol_system.specs.Machine.{SystemState, machine_of}
use Rattle.flash_cgi.specs.declared.worker.Worker.{Worker}
use Rattle.flash_laws.specs.SiteContents.{Refusals}
use Rattle.flash_laws.specs.World.Consistency.{Actor}
use Rattle.flash_laws.specs.World.{IsNew}
use Rattle.flash_lite.specs.WorkerSet.{worker_set_of}
use Rattle.flash_lite.specs.Library.{library_of}
use Rattle.flash_lite.specs.NewWorld.{AreInSlots}
use Rattle.flash_lite.specs.Setup.{SetsUp, is_in_range}
use Rattle.flash_lite.specs.declared.site.Site.{Site}

-- The world is new, with the files in the slots and the workers of the site, if the machine was new and had enough
-- slots, whichever refusals calls may get later.
abbrev pub IsNewFor : Site → (old : State) → WorldState State (Actor Worker) → Type 0
IsNewFor s old w = (slots : List (List ℕ)) (refuses : Refusals) → old ≡ new_state slots → MAX_FILES ≤ length slots
    → IsNew (library_of s slots refuses) (worker_set_of s) w

-- each world of the site's processes on this machine is new, with the contents of the slots, if the machine was new and
-- had enough slots
abbrev pub IsNewAt : Site → (old new : State) → Type 0
IsNewAt s old new = (w : WorldState State (Actor Worker)) → w.machine ≡ new → AreInSlots s w.process_slots
    → IsNewFor s old w

-- A system is set up for a site: its machine executes the site's calls, the slots are unchanged, and each world of the
-- site's processes on it is new, if the machine was new and had enough slots.
pub record SetsUpWorld (s : Site) (before after : SystemState) : Type 0 where
  pub set_up : SetsUp s (machine_of before) (machine_of after)
  pub slots : (machine_of after).slots ≡ (machine_of before).slots
  pub new : IsNewAt s (machine_of before) (machine_of after)

-- a system over an honest store is set up for a site
abbrev pub SetsUpIfHonest : Site → (old new : SystemState) → Type 0
SetsUpIfHonest s old new = IfHonest old.disk (SetsUpWorld s old new)

-- The world of a site within its limits is new after the site's calls, none refused, with its processes in their
-- process slots, if the machine was new and had enough slots.
abbrev pub SetUpIsANewWorld : Type 0
SetUpIsANewWorld = (s : Site) (old : State) (w : WorldState State (Actor Worker)) → IsTrue (is_in_range s)
    → SetsUp s old w.machine
    → AreInSlots s w.process_slots → IsNewFor s old w
