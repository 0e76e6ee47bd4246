use Rattle.std.proofs.Common.{◌≡◌, ◌++◌, drop}
use Rattle.flash_log.specs.Line.{escaped}
use Rattle.flash_log.proofs.lines.push_escaped.Given as goal

abbrev pub invariant-loop-byte : goal.invariant-loop-byte
invariant-loop-byte l = l.line.items ++ escaped (drop l.byte-index l.bytes) ≡ l.fn.line.items ++ escaped l.bytes
