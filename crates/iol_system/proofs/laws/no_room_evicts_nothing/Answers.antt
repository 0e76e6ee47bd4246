use Rattle.iol_system.proofs.LackOfRoom.{no_room_evicts}
use Rattle.iol_system.proofs.laws.no_room_evicts_nothing.Goals as goal

pub returns : goal.returns
returns c = no_room_evicts
