use Rattle.std.proofs.Common.{◌≡◌, take, false}
use Rattle.iol_cache.specs.Marks.{is_in_use}
use Rattle.iol_cache.proofs.marks.CleanHolds.is_in_use.Given as goal

abbrev pub invariant-loop-slice : goal.invariant-loop-slice
invariant-loop-slice l = is_in_use l.store l.self (take l.slice-index l.slices) ≡ false
