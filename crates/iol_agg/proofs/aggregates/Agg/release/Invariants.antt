use Rattle.std.proofs.Common.{vec_len}
use Rattle.iol_hold.specs.Moves.{Moves, SameLists}
use Rattle.iol_hold.specs.Releases.{FreesOnly}
use Rattle.iol_hold.specs.StoreState.{AllReclaimed}
use Rattle.iol_hold.specs.Texts.{bufs_of, AllReadable}
use Rattle.iol_agg.proofs.aggregates.Agg.release.Given as goal

abbrev pub invariant-loop-slice : goal.invariant-loop-slice
invariant-loop-slice l = record {
  moves : Moves l.fn.store l.store (bufs_of l.fn.self) (bufs_of l.slices.items);
  lists : SameLists l.fn.store l.store;
  frees : FreesOnly l.fn.store l.store;
  reclaims : AllReadable l.fn.store l.fn.self → AllReclaimed l.fn.store → AllReadable l.fn.store l.slices.items
      × AllReclaimed l.store;
}

abbrev pub decreases-loop-slice : goal.decreases-loop-slice
decreases-loop-slice l = vec_len l.slices
