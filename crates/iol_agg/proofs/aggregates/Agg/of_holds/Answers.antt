use Rattle.std.proofs.Common.{length, arith, ap}
use Rattle.iol_hold.proofs.ReadSlices.{length-text_of}
use Rattle.iol_agg.proofs.aggregates.Agg.of_holds.Goals as goal

pub from_slices-requires : goal.from_slices-requires
from_slices-requires c =
    omega (
      arith,
      length-text_of c.args.store.now c.add_whole.new.slices.items,
      ap length c.add_whole.ensures.text,
      c.requires.small,
    )
