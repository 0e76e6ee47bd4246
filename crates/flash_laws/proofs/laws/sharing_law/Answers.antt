use Rattle.flash_laws.proofs.Site.OwnWorkers.{workers_shared}
use Rattle.flash_laws.proofs.laws.sharing_law.Goals as goal

pub returns : goal.returns
returns c = workers_shared
