use Rattle.std.proofs.Common.{◌≡◌, take, true}
use Rattle.std.specs.List.{list_all}
use Rattle.iol_arena.specs.Chunks.{is_unused}
use Rattle.iol_pool.proofs.pools.are_unused.Given as goal

abbrev pub invariant-loop-chunk : goal.invariant-loop-chunk
invariant-loop-chunk l = list_all (is_unused l.arena) (take l.chunk-index l.chunks) ≡ true
