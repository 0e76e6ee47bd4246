use Rattle.iol_system.proofs.Hopeless.{refused_evicts}
use Rattle.iol_system.proofs.laws.refused_without_room_evicts_nothing.Goals as goal

pub returns : goal.returns
returns c = refused_evicts
