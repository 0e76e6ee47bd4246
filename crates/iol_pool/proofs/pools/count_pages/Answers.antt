use Rattle.std.proofs.Common.{arith}
use Rattle.iol_pool.specs.Pools.{is_counted}
use Rattle.iol_pool.proofs.Counts.{pages_more, pages_few}
use Rattle.iol_pool.proofs.pools.count_pages.Goals as goal

pub overflow_add-count : goal.overflow_add-count
overflow_add-count c =
    let few = pages_few (is_counted c.args.arena.now c.args.retired) c.chunk-item.result in
    omega (arith, few, c.count_in-count.ensures, c.requires.few, c.loop-chunk.invariant.few)

pub loop-chunk-preserved : goal.loop-chunk-preserved
loop-chunk-preserved c =
    let more = pages_more (is_counted c.args.arena.now c.args.retired) c.args.chunks.now c.loop-chunk.chunk-index
    c.chunk-item.result c.loop-chunk-test.true c.chunk-item.is in
    let few = pages_few (is_counted c.args.arena.now c.args.retired) c.chunk-item.result in
    record {
      found = omega (arith, more, c.count_in-count.ensures, c.loop-chunk.invariant.found);
      few = omega (arith, few, c.count_in-count.ensures, c.loop-chunk.invariant.few);
    }
