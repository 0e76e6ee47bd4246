use Rattle.std.proofs.Common.{◌≡◌, ◌+◌, take}
use Rattle.iol_hold.specs.Places.{byte_len}
use Rattle.iol_agg.proofs.aggregates.join.place_of.Given as goal

abbrev pub invariant-loop-slice : goal.invariant-loop-slice
invariant-loop-slice l = record {
  whole : l.whole ≡ l.slice-index;
  rest : byte_len (take l.slice-index l.slices) + l.rest ≡ l.at;
}
