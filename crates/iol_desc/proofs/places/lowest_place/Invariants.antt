use Rattle.std.proofs.Common.{◌≡◌, ◌+◌, drop}
use Rattle.iol_core.specs.NumberedLists.{lowest}
use Rattle.iol_desc.proofs.places.lowest_place.Given as goal

abbrev pub invariant-loop-i : goal.invariant-loop-i
invariant-loop-i g l = lowest l.places ≡ l.i + lowest (drop l.i l.places)
