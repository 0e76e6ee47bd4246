-- The world of a site of some files over some store.
use Rattle.std.proofs.Common.{◌≡◌, ℕ, List, length}
use Rattle.iol_back.specs.Disk.{Disk}
use Rattle.iol_core.specs.declared.configuration.TheConstants.Config.{DEFAULT}
use Rattle.iol_proc.specs.World.{WorldState}
use Rattle.iol_system.specs.Machine.{SystemState}
use Rattle.flash_cgi.specs.declared.worker.Worker.{Worker}
use Rattle.flash_laws.specs.World.Consistency.{Actor}
use Rattle.flash_site.specs.World.{BeginsSite, BeginsSiteOf, HasBytes, IsWorldOf}

pub begins_site : (names : List (List ℕ)) (store : Disk) (world : WorldState SystemState (Actor Worker))
    → IsWorldOf names store world → BeginsSite world
begins_site names store world is = ∣ record { config = DEFAULT; names = names; store = store; is = is } ∣₁

pub begins_site_of : (count bytes : ℕ) (names : List (List ℕ)) (store : Disk)
    (world : WorldState SystemState (Actor Worker)) → IsWorldOf names store world → length names ≡ count
    → HasBytes store bytes → BeginsSiteOf count bytes world
begins_site_of count bytes names store world is count-is bytes-are =
    ∣ record { names = names; store = store; is = is; count-is = count-is; bytes-are = bytes-are } ∣₁
