use Rattle.iol_system.proofs.StillHolds.{no_room_pools}
use Rattle.iol_system.proofs.laws.no_room_keeps_pools.Goals as goal

pub returns : goal.returns
returns c = no_room_pools
