use Rattle.iol_system.proofs.Chains.{chain_shares}
use Rattle.iol_system.proofs.laws.runs_share.Goals as goal

pub returns : goal.returns
returns c = chain_shares
