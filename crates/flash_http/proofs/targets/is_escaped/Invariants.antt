use Rattle.std.proofs.Common.{◌≡◌, length}
use Rattle.flash_http.specs.Target.{is_escaped}
use Rattle.flash_http.proofs.targets.is_escaped.Given as goal

abbrev pub invariant-loop-bytes : goal.invariant-loop-bytes
invariant-loop-bytes l = is_escaped l.bytes ≡ is_escaped l.fn.bytes

abbrev pub decreases-loop-bytes : goal.decreases-loop-bytes
decreases-loop-bytes l = length l.bytes
