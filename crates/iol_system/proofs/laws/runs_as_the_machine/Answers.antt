use Rattle.iol_system.proofs.Chains.{chain_run}
use Rattle.iol_system.proofs.laws.runs_as_the_machine.Goals as goal

pub returns : goal.returns
returns c = chain_run
