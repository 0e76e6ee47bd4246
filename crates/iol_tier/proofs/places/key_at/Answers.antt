use Rattle.std.proofs.Common.{◌+◌, ◌/◌, length, arith, refl, sym}
use Rattle.iol_tier.specs.Blocks.{joined}
use Rattle.iol_tier.proofs.JoinedKeys.{key_read}
use Rattle.iol_tier.proofs.places.key_at.Goals as goal

pub returns : goal.returns
returns c =
    let bs = c.args.blocks.now.items in
    let k = (c.args.skip + c.args.place) / 128 in
    key_read bs c.args.skip (length (joined bs)) c.args.place k c.at.result c.index.result.now c.requires.laid.filled
    refl c.requires.within
    (omega (arith, c.requires.laid.places, c.requires.within)) (omega arith) (omega arith) c.index.ensures
    (rw (sym c.begin_of.ensures) c.at.ensures)
