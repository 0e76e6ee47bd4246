use Rattle.std.proofs.Common.{◌+◌, arith}
use Rattle.std.proofs.lemmas.Bool.Decides.{nat_tests}
use Rattle.iol_arena.specs.Chunks.{usable}
use Rattle.iol_pool.proofs.Counts.{pages_more, take_fewer}
use Rattle.iol_pool.proofs.pools.has_usable.Goals as goal

pub returns-then-left-here : goal.returns-then-left-here
returns-then-left-here c =
    let f = usable c.args.arena.now in
    let cs = c.args.chunks.now in
    let more = pages_more f cs c.loop-chunk.chunk-index c.chunk-item.result c.loop-chunk-test.true c.chunk-item.is in
    let part = take_fewer f cs (c.loop-chunk.chunk-index + 1) in
    grind (arith, nat_tests, more, part, c.loop-chunk.invariant, c.free_in-here.ensures, c.if-left-here.true)
