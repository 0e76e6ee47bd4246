use Rattle.std.proofs.Common.{◌≡◌, ◌+◌, ◌-◌, ◌≤◌, [], ◌++◌, min, length, map, take, drop}
use Rattle.std.specs.VecDeque.{deque_len, deque_capacity}
use Rattle.iol_hold.specs.Moves.{Shares}
use Rattle.iol_hold.specs.Places.{places, slice_places}
use Rattle.iol_hold.specs.Texts.{bufs_of}
use Rattle.iol_pipe.specs.Queue.{first_parts}
use Rattle.iol_pipe.proofs.add_prefix.Given as goal

abbrev pub invariant-loop-slice : goal.invariant-loop-slice
invariant-loop-slice l = record {
  so_far : places l.queue.items ++ take l.left (places (drop l.slice-index l.slices)) ≡ places l.fn.queue.items
      ++ take l.n (places l.slices);
  parts : map slice_places l.queue.items ++ first_parts l.left (map slice_places (drop l.slice-index l.slices))
      ≡ map slice_places l.fn.queue.items ++ first_parts l.n (map slice_places l.slices);
  bufs : bufs_of l.queue.items ≡ bufs_of l.fn.queue.items ++ bufs_of (take l.slice-index l.slices);
  shares : Shares l.fn.store l.store [] (bufs_of (take l.slice-index l.slices));
  room : deque_len l.queue + min (length l.slices - l.slice-index) l.left ≤ deque_capacity l.queue;
}
