use Rattle.iol_system.proofs.Chains.{chain_honest}
use Rattle.iol_system.proofs.laws.runs_keep_honesty.Goals as goal

pub returns : goal.returns
returns c = chain_honest
