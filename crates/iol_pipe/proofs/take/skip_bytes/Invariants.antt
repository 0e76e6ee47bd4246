use Rattle.std.proofs.Common.{◌≡◌, ◌≤◌, drop, length}
use Rattle.iol_hold.specs.Moves.{Covers, Moves, SameLists}
use Rattle.iol_hold.specs.Places.{places}
use Rattle.iol_hold.specs.Releases.{FreesOnly}
use Rattle.iol_hold.specs.StoreState.{AllReclaimed}
use Rattle.iol_hold.specs.Texts.{bufs_of, AllReadable}
use Rattle.iol_pipe.proofs.take.skip_bytes.Given as goal

abbrev pub invariant-loop-left : goal.invariant-loop-left
invariant-loop-left l = record {
  so_far : drop l.left (places l.queue.items) ≡ drop l.n (places l.fn.queue.items);
  few : length l.queue.items ≤ length l.fn.queue.items;
  covered : Covers l.store (bufs_of l.queue.items);
  moves : Moves l.fn.store l.store (bufs_of l.fn.queue.items) (bufs_of l.queue.items);
  lists : SameLists l.fn.store l.store;
  frees : FreesOnly l.fn.store l.store;
  reclaims : AllReadable l.fn.store l.fn.queue.items → AllReclaimed l.fn.store → AllReadable l.store l.queue.items
      × AllReclaimed l.store;
}

abbrev pub decreases-loop-left : goal.decreases-loop-left
decreases-loop-left l = l.left
