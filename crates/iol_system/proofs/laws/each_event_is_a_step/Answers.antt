use Rattle.iol_system.proofs.Chains.{chain_each}
use Rattle.iol_system.proofs.laws.each_event_is_a_step.Goals as goal

pub returns : goal.returns
returns c = chain_each
