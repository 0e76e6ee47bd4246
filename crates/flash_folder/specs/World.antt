-- The world of the files of a folder.
use Rattle.std.specs.Prelude.{[], List, Bool}
use Rattle.iol_back.specs.Folder.{AreNames, Folder, disk_of}
use Rattle.iol_core.specs.declared.configuration.TheConstants.Config.{DEFAULT}
use Rattle.iol_core.specs.declared.events.Reply.{Reply}
use Rattle.iol_proc.specs.World.{WorldState}
use Rattle.iol_system.specs.Machine.{SystemState}
use Rattle.flash_cgi.specs.declared.worker.Worker.{Worker}
use Rattle.flash_laws.specs.World.Consistency.{Actor}
use Rattle.flash_lite.specs.HostedSite.{HostsOver}
use Rattle.flash_lite.specs.Prelude.{AreFilesOf}
use Rattle.flash_lite.specs.declared.site.Site.{Site}

-- The world of a site of exactly the files of a folder, over the folder as its store, before its first turn: it was set
-- up in a new system with the default parameters, without any other event.
pub record IsFolderWorld (folder : Folder) (world : WorldState SystemState (Actor Worker)) : Type 0 where
  pub names : AreNames folder.names
  pub site : Site
  pub files : AreFilesOf folder.names site.files.items
  pub replies : List Reply
  pub idle : Bool
  pub over : HostsOver DEFAULT (disk_of folder) site [] replies 0 idle world

-- the same for some folder
pub record IsSomeFolderWorld (world : WorldState SystemState (Actor Worker)) : Type 0 where
  pub folder : Folder
  pub is : IsFolderWorld folder world

abbrev pub BeginsFolder : (world : WorldState SystemState (Actor Worker)) → Type 0
BeginsFolder world = ∥ IsSomeFolderWorld world ∥₁
