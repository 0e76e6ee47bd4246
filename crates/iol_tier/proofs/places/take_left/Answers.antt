use Rattle.std.proofs.Common.{◌+◌, ◌/◌, length, arith, refl, sym}
use Rattle.iol_tier.specs.Blocks.{joined}
use Rattle.iol_tier.proofs.BlockKeys.{take_left_becomes}
use Rattle.iol_tier.proofs.JoinedKeys.{key_read}
use Rattle.iol_tier.proofs.places.take_left.Goals as goal

pub returns-clause-key : goal.returns-clause-key
returns-clause-key c =
    let old = c.args.blocks.now.items in
    key_read old c.args.skip (length (joined old)) c.args.place ((c.args.skip + c.args.place) / 128) c.remove-key.result
    c.index_mut.result.now c.requires.laid.filled refl c.requires.within
    (omega (arith, c.requires.laid.places, c.requires.within)) (omega arith) (omega arith) c.index_mut.ensures.value
    (rw (sym c.begin_of.ensures) c.remove-key.ensures.key)

pub returns-clause-becomes : goal.returns-clause-becomes
returns-clause-becomes c =
    take_left_becomes c.args.blocks.now.items c.shift_right.new.blocks.items c.args.skip (c.args.skip + 1)
    (c.args.skip / 128) ((c.args.skip + c.args.place) / 128) c.args.place c.index_mut.result.now
    c.remove-key.new.self
    refl (omega arith) (omega arith) (omega arith) (omega arith) c.requires.laid.filled c.requires.laid.places
    c.requires.within
    c.index_mut.ensures.value (rw (sym c.begin_of.ensures) c.remove-key.ensures.keys) c.remove-key.ensures.width
    c.shift_right.ensures.shifts
