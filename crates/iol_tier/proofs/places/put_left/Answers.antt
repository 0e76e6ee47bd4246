use Rattle.std.proofs.Common.{◌+◌, ◌-◌, ◌/◌, arith, sym}
use Rattle.iol_tier.proofs.BlockKeys.{put_left_becomes}
use Rattle.iol_tier.proofs.places.put_left.Goals as goal

pub returns : goal.returns
returns c =
    let skip = c.args.skip - 1 in
    put_left_becomes c.args.blocks.now.items c.shift_left.new.blocks.items skip c.args.skip (skip / 128)
    ((skip + c.args.place) / 128) c.args.place c.args.key c.index_mut.result.now c.insert.new.self
    (omega (arith, c.requires.free)) (omega arith) (omega arith) (omega arith) (omega arith) c.requires.may.laid.filled
    c.requires.may.laid.places c.requires.may.within
    c.shift_left.ensures.shifts c.index_mut.ensures.value (rw (sym c.begin_of.ensures) c.insert.ensures.keys)
    c.insert.ensures.width
