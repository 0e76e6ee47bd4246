use Rattle.iol_core.proofs.Values.{values_step}
use Rattle.iol_laws.proofs.Frame.Steps.{leaves_step}
use Rattle.iol_laws.proofs.laws.each_step_leaves_the_rest.Goals as goal

pub returns : goal.returns
returns c = record { leaves = leaves_step; values = values_step }
