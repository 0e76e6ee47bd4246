use Rattle.iol_system.proofs.Chains.{chain_values}
use Rattle.iol_system.proofs.laws.runs_keep_values.Goals as goal

pub returns : goal.returns
returns c = chain_values
