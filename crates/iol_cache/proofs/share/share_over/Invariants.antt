use Rattle.std.proofs.Common.{◌≡◌, ◌-◌, ◌≤◌, ◌++◌}
use Rattle.iol_hold.specs.Moves.{Shares}
use Rattle.iol_hold.specs.Places.{places}
use Rattle.iol_hold.specs.Texts.{bufs_of}
use Rattle.iol_cache.specs.SharedBytes.{places_over, slices_over}
use Rattle.iol_cache.proofs.share.share_over.Given as goal

abbrev pub invariant-loop-at : goal.invariant-loop-at
invariant-loop-at l = record {
  begun : l.from ≤ l.at;
  within : l.at ≤ l.to;
  places : places l.shared ≡ places l.fn.so_far ++ places_over l.extents.extents l.from l.at;
  parts : bufs_of l.shared ++ bufs_of (slices_over l.extents.extents l.at l.to) ≡ bufs_of l.fn.so_far
      ++ bufs_of (slices_over l.extents.extents l.from l.to);
  shares : Shares l.fn.store l.store (bufs_of l.fn.so_far) (bufs_of l.shared);
}

abbrev pub decreases-loop-at : goal.decreases-loop-at
decreases-loop-at l = l.to - l.at
