use Rattle.std.proofs.Common.{arith}
use Rattle.iol_hold.proofs.SlicePlaces.{byte_len-take_more}
use Rattle.iol_agg.proofs.aggregates.join.place_of.Goals as goal

pub loop-slice-preserved : goal.loop-slice-preserved
loop-slice-preserved c = record {
  whole = omega (arith, c.loop-slice.invariant.whole);
  rest =
      omega (
        arith,
        c.loop-slice.invariant.rest,
        byte_len-take_more c.args.slices.now c.loop-slice.slice-index
            c.slice-item.result (omega arith) c.slice-item.is,
      );
}
