use Rattle.iol_system.proofs.Orderly.{chain_orderly}
use Rattle.iol_system.proofs.laws.runs_stay_orderly.Goals as goal

pub returns : goal.returns
returns c = chain_orderly
