use Rattle.iol_system.proofs.NobodyLeft.{pages_freed}
use Rattle.iol_system.proofs.laws.all_pages_come_free.Goals as goal

pub returns : goal.returns
returns c = pages_freed
