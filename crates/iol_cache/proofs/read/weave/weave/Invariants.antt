use Rattle.std.proofs.Common.{◌≡◌, ◌+◌, ◌≤◌, ◌++◌, [], All, drop}
use Rattle.iol_hold.specs.Moves.{Shares}
use Rattle.iol_hold.specs.Places.{places, byte_len}
use Rattle.iol_hold.specs.Texts.{bufs_of, AllReadable}
use Rattle.iol_extent.specs.Spans.{AreInOrder}
use Rattle.iol_cache.specs.SharedBytes.{IsCoveredSpan}
use Rattle.iol_cache.specs.Weave.{len_beside, slices_woven, woven}
use Rattle.iol_cache.proofs.read.weave.weave.Given as goal

abbrev pub invariant-loop-gap : goal.invariant-loop-gap
invariant-loop-gap l = record {
  places : places l.shared ++ woven (drop l.used (places l.beside)) l.extents.extents l.at l.to
      (drop l.gap-index l.gaps) ≡ woven (places l.beside) l.extents.extents l.from l.to l.gaps;
  parts : bufs_of l.shared
      ++ bufs_of (slices_woven l.beside l.extents.extents l.used l.at l.to (drop l.gap-index l.gaps))
      ≡ bufs_of (slices_woven l.beside l.extents.extents 0 l.from l.to l.gaps);
  shares : Shares l.fn.store l.store [] (bufs_of l.shared);
  in_order : AreInOrder l.at l.to (drop l.gap-index l.gaps);
  covered : All (IsCoveredSpan l.extents.extents) (drop l.gap-index l.gaps);
  left : l.used + len_beside l.at l.to (drop l.gap-index l.gaps) ≡ byte_len l.beside;
  few : byte_len l.shared ≤ l.at;
  readable : AllReadable l.fn.store l.shared;
}
