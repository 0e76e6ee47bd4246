use Rattle.std.proofs.Common.{◌∙◌}
use Rattle.flash_lite.proofs.Marks.{has_room, put_in, sought, taken_out}
use Rattle.flash_lite.proofs.table.place_list.mark.Goals as goal

pub put-requires-clause-room : goal.put-requires-clause-room
put-requires-clause-room c =
    let s = sought c.args.places.now.items c.as_slice.result.now c.args.place c.count_below-at.result c.args.was
    c.args.there c.as_slice.ensures.value c.if-was-there.false c.requires.stands
    c.count_below-at.ensures.below c.count_below-at.ensures.within in
    has_room c.args.there s c.if-there.true _ c.requires.fits

pub returns-then-there-clause-marked : goal.returns-then-there-clause-marked
returns-then-there-clause-marked c =
    let s = sought c.args.places.now.items c.as_slice.result.now c.args.place c.count_below-at.result c.args.was
    c.args.there c.as_slice.ensures.value c.if-was-there.false c.requires.stands
    c.count_below-at.ensures.below c.count_below-at.ensures.within in
    c.put.ensures.items ∙ put_in c.args.there s c.if-there.true

pub returns-else-there-clause-marked : goal.returns-else-there-clause-marked
returns-else-there-clause-marked c =
    let s = sought c.args.places.now.items c.as_slice.result.now c.args.place c.count_below-at.result c.args.was
    c.args.there c.as_slice.ensures.value c.if-was-there.false c.requires.stands
    c.count_below-at.ensures.below c.count_below-at.ensures.within in
    c.remove.ensures.items ∙ taken_out c.args.there s c.if-there.false
