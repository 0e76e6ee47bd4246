use Rattle.std.proofs.Common.{◌≡◌, drop}
use Rattle.iol_extent.specs.Extents.{dirty_in}
use Rattle.iol_extent.proofs.extents.Extents.first_dirty.Given as goal

abbrev pub invariant-loop-i : goal.invariant-loop-i
invariant-loop-i l = dirty_in (drop l.i l.self.extents) ≡ dirty_in l.self.extents
