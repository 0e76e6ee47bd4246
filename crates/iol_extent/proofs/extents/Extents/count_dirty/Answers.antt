use Rattle.std.proofs.Common.{length, ap, arith}
use Rattle.iol_extent.specs.Extents.{ExtentMap}
use Rattle.iol_extent.proofs.Counts.{dirty_few}
use Rattle.iol_extent.proofs.extents.Extents.count_dirty.Goals as goal

pub returns-clause-few : goal.returns-clause-few
returns-clause-few c =
    omega (
      arith,
      dirty_few c.self.inside.pieces.extents,
      c.self.invariant.dirty,
      ap (λ (m : ExtentMap). length m.extents) c.self.view_is,
    )
