use Rattle.std.proofs.Common.{◌+◌, ◌/◌, arith, sym}
use Rattle.iol_tier.proofs.BlockKeys.{put_right_becomes}
use Rattle.iol_tier.proofs.places.put_right.Goals as goal

pub returns : goal.returns
returns c =
    let old = c.args.blocks.now.items in
    put_right_becomes old c.shift_right.new.blocks.items c.args.skip ((c.args.skip + c.args.len) / 128)
    ((c.args.skip + c.args.place) / 128) c.args.place c.args.key c.index_mut.result.now c.insert.new.self
    (omega (arith, c.requires.may.laid.keys)) (omega (arith, c.requires.may.laid.keys)) (omega arith) (omega arith)
    (rw (sym c.requires.may.laid.keys) c.requires.may.laid.filled)
    (omega (arith, c.requires.may.laid.keys, c.requires.free))
    (omega (arith, c.requires.may.laid.keys, c.requires.may.within))
    c.shift_right.ensures.shifts c.index_mut.ensures.value (rw (sym c.begin_of.ensures) c.insert.ensures.keys)
    c.insert.ensures.width
