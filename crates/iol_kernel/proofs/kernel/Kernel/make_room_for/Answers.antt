use Rattle.iol_kernel.specs.Kernel.{state_of}
use Rattle.iol_kernel.proofs.State.AfterRoom.{fits_asked}
use Rattle.iol_kernel.proofs.kernel.Kernel.make_room_for.Goals as goal

pub returns : goal.returns
returns c = fits_asked (state_of c.args.self.now) (state_of c.make_room.new.self) c.args.pool c.args.bytes
    c.pages_to_hold-pages.result c.make_room.result c.pages_to_hold-pages.ensures c.make_room.ensures
