use Rattle.iol_reactor.proofs.Clients.{bytes_move}
use Rattle.iol_reactor.proofs.history.bytes_move.Goals as goal

pub returns : goal.returns
returns c = bytes_move
