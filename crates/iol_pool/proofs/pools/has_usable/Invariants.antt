use Rattle.std.proofs.Common.{◌≡◌, ◌+◌, take, length, flat_map}
use Rattle.std.specs.List.{filter}
use Rattle.iol_arena.specs.Chunks.{chunk_pages, usable}
use Rattle.iol_pool.proofs.pools.has_usable.Given as goal

abbrev pub invariant-loop-chunk : goal.invariant-loop-chunk
invariant-loop-chunk l = l.left + length (filter (usable l.arena) (flat_map chunk_pages (take l.chunk-index l.chunks)))
    ≡ l.pages
