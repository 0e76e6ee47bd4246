use Rattle.std.proofs.Common.{take}
use Rattle.iol_cache.specs.Marks.{Turns}
use Rattle.iol_cache.proofs.marks.CleanHolds.set_clean.Given as goal

abbrev pub invariant-loop-slice : goal.invariant-loop-slice
invariant-loop-slice l =
    Turns l.is_clean l.initial.self-inside.marks.items l.self-inside.marks.items (take l.slice-index l.slices)
