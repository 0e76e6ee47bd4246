use Rattle.std.proofs.Common.{take}
use Rattle.iol_arena.specs.Chunks.{AreTaken}
use Rattle.iol_arena.proofs.arena.chunks.mark_taken.Given as goal

abbrev pub invariant-loop-chunk : goal.invariant-loop-chunk
invariant-loop-chunk l = AreTaken l.fn.taken l.taken (take l.chunk-index l.chunks)
