use Rattle.std.proofs.Common.{◌≡◌, ◌≤◌, ◌++◌, [], drop}
use Rattle.iol_hold.specs.Moves.{Shares}
use Rattle.iol_hold.specs.Places.{places, byte_len}
use Rattle.iol_hold.specs.Texts.{bufs_of, AllReadable}
use Rattle.iol_extent.specs.Spans.{AreInOrder}
use Rattle.iol_cache.specs.Weave.{IsCoveredBeside, places_beside, slices_beside}
use Rattle.iol_cache.proofs.read.weave.share_beside.Given as goal

abbrev pub invariant-loop-gap : goal.invariant-loop-gap
invariant-loop-gap l = record {
  places : places l.shared ++ places_beside l.extents.extents l.at l.to (drop l.gap-index l.gaps)
      ≡ places_beside l.extents.extents l.from l.to l.gaps;
  parts : bufs_of l.shared ++ bufs_of (slices_beside l.extents.extents l.at l.to (drop l.gap-index l.gaps))
      ≡ bufs_of (slices_beside l.extents.extents l.from l.to l.gaps);
  shares : Shares l.fn.store l.store [] (bufs_of l.shared);
  in_order : AreInOrder l.at l.to (drop l.gap-index l.gaps);
  covered : IsCoveredBeside l.extents.extents l.at l.to (drop l.gap-index l.gaps);
  few : byte_len l.shared ≤ l.at;
  readable : AllReadable l.fn.store l.shared;
}
