use Rattle.std.proofs.Common.{◌≡◌, drop, length}
use Rattle.iol_pool.specs.Pools.{all_returned}
use Rattle.iol_pool.proofs.pools.return_all.Given as goal

abbrev pub invariant-loop-chunk : goal.invariant-loop-chunk
invariant-loop-chunk l = record {
  same : l.arena ≡ record {
    memory = l.fn.arena.memory;
    base = l.fn.arena.base;
    entries = l.fn.arena.entries;
    limit =
        l.fn.arena.limit;
    taken = l.arena.taken;
  };
  rest : all_returned l.arena.taken (drop l.chunk-index l.chunks) ≡ all_returned l.fn.arena.taken l.chunks;
  long : length l.arena.taken ≡ length l.fn.arena.taken;
}
