use Rattle.std.proofs.Common.{◌≡◌, ◌≤◌, ◌*◌, take, length, flat_map}
use Rattle.std.specs.List.{filter}
use Rattle.iol_arena.specs.Chunks.{chunk_pages}
use Rattle.iol_pool.specs.Pools.{is_counted}
use Rattle.iol_pool.proofs.pools.count_pages.Given as goal

abbrev pub invariant-loop-chunk : goal.invariant-loop-chunk
invariant-loop-chunk l = record {
  found : l.count ≡ length (filter (is_counted l.arena l.retired) (flat_map chunk_pages (take l.chunk-index l.chunks)));
  few : l.count ≤ 16 * l.chunk-index;
}
