use Rattle.iol_system.proofs.ClosedPools.{gives_back}
use Rattle.iol_system.proofs.laws.closed_pools_give_back.Goals as goal

pub returns : goal.returns
returns c = gives_back
