-- The world of some folder.
use Rattle.iol_back.specs.Folder.{Folder}
use Rattle.iol_proc.specs.World.{WorldState}
use Rattle.iol_system.specs.Machine.{SystemState}
use Rattle.flash_cgi.specs.declared.worker.Worker.{Worker}
use Rattle.flash_laws.specs.World.Consistency.{Actor}
use Rattle.flash_folder.specs.World.{BeginsFolder, IsFolderWorld}

pub begins_folder : (folder : Folder) (world : WorldState SystemState (Actor Worker)) → IsFolderWorld folder world
    → BeginsFolder world
begins_folder folder world is = ∣ record { folder = folder; is = is } ∣₁
