use Rattle.std.proofs.Common.{◌≡◌, ◌+◌, ◌-◌, ◌<◌, ◌≤◌, ◌++◌, min, length, take, drop, get_or, slice_range, vec_len}
use Rattle.std.proofs.Common.{vec_capacity}
use Rattle.iol_hold.specs.Places.{places}
use Rattle.iol_hold.specs.Texts.{bufs_of}
use Rattle.iol_hold.specs.declared.slices.Slice.{Slice}
use Rattle.iol_agg.specs.Pours.{Pours, meeting}
use Rattle.iol_agg.proofs.aggregates.pour.pour.Given as goal

abbrev pub invariant-loop-slice : goal.invariant-loop-slice
invariant-loop-slice l = record {
  so_far : places l.out.items ++ take l.left (drop l.skip (places (drop l.slice-index l.later))) ≡ places l.fn.out.items
      ++ slice_range (places l.slices) l.from l.to;
  pours : Pours l.fn.store l.store l.fn.out.items l.out.items (bufs_of (take l.slice-index l.later));
  bufs : bufs_of l.out.items ++ bufs_of (meeting l.skip (l.skip + l.left) (drop l.slice-index l.later))
      ≡ bufs_of l.fn.out.items ++ bufs_of (meeting l.from l.to l.slices);
  inside : (d : Slice) → 0 < l.skip → l.skip < (get_or l.later l.slice-index d).len;
  capacity : vec_capacity l.out ≡ vec_capacity l.fn.out;
  short : vec_len l.out + min (length l.later - l.slice-index) l.left ≤ vec_len l.fn.out + min (length l.slices)
      (l.to - l.from);
}
