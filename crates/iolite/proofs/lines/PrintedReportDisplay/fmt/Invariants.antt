use Rattle.std.proofs.Common.{take}
use Rattle.std.specs.Fmt.{HasWritten, IsPlainFormatter}
use Rattle.std.specs.List.{flat_map}
use Rattle.iolite.specs.PrintedText.{pool_line}
use Rattle.iolite.proofs.lines.PrintedReportDisplay.fmt.Given as goal

abbrev pub invariant-loop-of : goal.invariant-loop-of
invariant-loop-of g l =
    IsPlainFormatter l.initial.f
    → HasWritten g.W.Write.write_str_gives l.initial.f (flat_map pool_line (take l.of-index l.of-items)) l.f
