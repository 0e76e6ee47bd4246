use Rattle.std.proofs.Common.{ap, arith}
use Rattle.iol_extent.specs.Extents.{ExtentMap, last_end}
use Rattle.iol_extent.proofs.Counts.{count_few}
use Rattle.iol_extent.proofs.extents.Extents.count.Goals as goal

pub returns-clause-few : goal.returns-clause-few
returns-clause-few c =
    let es = c.self.inside.pieces.extents in
    omega (
      arith,
      count_few 0 es c.self.invariant.apart,
      c.len.ensures,
      ap (λ (m : ExtentMap). last_end m.extents) c.self.view_is,
    )
