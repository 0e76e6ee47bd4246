use Rattle.flash_cgi.proofs.LongPieces.{pieces_are_long}
use Rattle.flash_cgi.proofs.laws.pieces_are_long.Goals as goal

pub returns : goal.returns
returns c = pieces_are_long
