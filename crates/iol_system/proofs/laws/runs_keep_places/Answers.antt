use Rattle.iol_system.proofs.Addresses.{chain_places}
use Rattle.iol_system.proofs.laws.runs_keep_places.Goals as goal

pub returns : goal.returns
returns c = chain_places
