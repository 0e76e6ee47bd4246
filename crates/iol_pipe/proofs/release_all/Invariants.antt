use Rattle.std.specs.VecDeque.{deque_len}
use Rattle.iol_hold.specs.Moves.{Moves, SameLists}
use Rattle.iol_hold.specs.Releases.{FreesOnly}
use Rattle.iol_hold.specs.StoreState.{AllReclaimed}
use Rattle.iol_hold.specs.Texts.{bufs_of, AllReadable}
use Rattle.iol_pipe.proofs.release_all.Given as goal

abbrev pub invariant-loop-slice : goal.invariant-loop-slice
invariant-loop-slice l = record {
  moves : Moves l.fn.store l.store (bufs_of l.fn.queue.items) (bufs_of l.queue.items);
  lists : SameLists l.fn.store l.store;
  frees : FreesOnly l.fn.store l.store;
  reclaims : AllReadable l.fn.store l.fn.queue.items → AllReclaimed l.fn.store → AllReadable l.fn.store l.queue.items
      × AllReclaimed l.store;
}

abbrev pub decreases-loop-slice : goal.decreases-loop-slice
decreases-loop-slice l = deque_len l.queue
