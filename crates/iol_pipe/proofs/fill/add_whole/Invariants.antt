use Rattle.std.proofs.Common.{◌+◌, ◌≤◌, length}
use Rattle.std.specs.List.{All}
use Rattle.std.specs.VecDeque.{deque_len, deque_capacity}
use Rattle.iol_hold.specs.Texts.{IsFilled}
use Rattle.iol_pipe.proofs.Wholes.{WholeSoFar}
use Rattle.iol_pipe.proofs.fill.add_whole.Given as goal

abbrev pub invariant-loop-hold : goal.invariant-loop-hold
invariant-loop-hold l = record {
  so_far : WholeSoFar l.store l.fn.queue.items l.queue.items l.left l.fn.holds;
  filled : All (IsFilled l.store) l.left;
  room : deque_len l.queue + length l.left ≤ deque_capacity l.queue;
}

abbrev pub decreases-loop-hold : goal.decreases-loop-hold
decreases-loop-hold l = length l.left
