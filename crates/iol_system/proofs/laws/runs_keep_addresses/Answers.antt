use Rattle.iol_system.proofs.Addresses.{chain_addresses}
use Rattle.iol_system.proofs.laws.runs_keep_addresses.Goals as goal

pub returns : goal.returns
returns c = chain_addresses
