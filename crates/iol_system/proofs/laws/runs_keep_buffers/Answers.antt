use Rattle.iol_system.proofs.Chains.{chain_stays}
use Rattle.iol_system.proofs.laws.runs_keep_buffers.Goals as goal

pub returns : goal.returns
returns c = chain_stays
