use Rattle.std.proofs.Common.{◌≡◌, ◌+◌, ◌≤◌, [], length, drop}
use Rattle.iol_hold.specs.Moves.{Moves, SameLists}
use Rattle.iol_hold.specs.Releases.{FreesOnly}
use Rattle.iol_hold.specs.StoreState.{AllReclaimed}
use Rattle.iol_hold.specs.Texts.{AllReadable, bufs_of}
use Rattle.iol_cache.specs.Gaps.{parts_back, without_spans}
use Rattle.iol_cache.proofs.read.gaps.take_back.Given as goal

abbrev pub invariant-loop-left : goal.invariant-loop-left
invariant-loop-left l = record {
  few : l.left ≤ length l.spans;
  extents : l.extents.extents ≡ without_spans l.fn.extents.extents (drop l.left l.spans);
  room : l.extents.room + l.left ≡ l.fn.extents.room + length l.spans;
  moves : Moves l.fn.store l.store (bufs_of (parts_back l.fn.extents.extents (drop l.left l.spans))) [];
  lists : SameLists l.fn.store l.store;
  frees : FreesOnly l.fn.store l.store;
  reclaims : AllReadable l.fn.store (parts_back l.fn.extents.extents l.spans) → AllReclaimed l.fn.store
      → AllReclaimed l.store;
}

abbrev pub decreases-loop-left : goal.decreases-loop-left
decreases-loop-left l = l.left
