use Rattle.iol_system.proofs.Chains.{chain_parts}
use Rattle.iol_system.proofs.laws.runs_in_parts.Goals as goal

pub returns : goal.returns
returns c = chain_parts
