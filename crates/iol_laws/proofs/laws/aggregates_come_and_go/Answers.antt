use Rattle.iol_laws.proofs.ComeAndGo.{none_step, gone_step}
use Rattle.iol_laws.proofs.laws.aggregates_come_and_go.Goals as goal

pub returns : goal.returns
returns c = record { none = none_step; gone = gone_step }
