use Rattle.iol_system.proofs.Chains.{chain_safe}
use Rattle.iol_system.proofs.laws.runs_stay_safe.Goals as goal

pub returns : goal.returns
returns c = chain_safe
