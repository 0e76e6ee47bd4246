use Rattle.std.proofs.Common.{◌+◌, ◌≤◌, ◌<◌, min, length, vec_len, vec_capacity}
use Rattle.iol_core.specs.declared.numbers.BufId.{BufId}
use Rattle.iol_hold.specs.Moves.{tally}
use Rattle.iol_hold.specs.Texts.{bufs_of}
use Rattle.iol_pipe.proofs.Parts.{IsTakenSoFar}
use Rattle.iol_pipe.proofs.take_prefix.Given as goal

abbrev pub invariant-loop-left : goal.invariant-loop-left
invariant-loop-left l = record {
  so_far : IsTakenSoFar l.fn.store l.store l.fn.queue.items l.out.items l.queue.items l.n l.left l.d;
  room : vec_len l.out + min (length l.queue.items) l.left ≤ vec_capacity l.out;
  few : length l.out.items + length l.queue.items ≤ length l.fn.queue.items + 1;
  fewer : 0 < l.left → length l.out.items + length l.queue.items ≤ length l.fn.queue.items;
  unsplit : 0 < l.left → (b : BufId)
      → tally b (bufs_of l.out.items) + tally b (bufs_of l.queue.items) ≤ tally b (bufs_of l.fn.queue.items);
}

abbrev pub decreases-loop-left : goal.decreases-loop-left
decreases-loop-left l = l.left
