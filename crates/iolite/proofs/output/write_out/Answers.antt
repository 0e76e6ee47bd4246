use Rattle.std.proofs.Common.{arith}
use Rattle.iolite.proofs.Appends.{WritesTo-kept, WritesTo-sliced}
use Rattle.iolite.proofs.output.write_out.Goals.{in-Ok, in-Err}
use Rattle.iolite.proofs.output.write_out.Goals as goal

pub loop-turn-preserved : goal.loop-turn-preserved
loop-turn-preserved g c =
    let old = g.W.Write.contents c.args.output.now in
    let mid = g.W.Write.contents c.loop-turn.output in
    let new = g.W.Write.contents c.write.new.self in
    elim c.match-write.branch [
      | in-Ok w ↦
          rw w.rest-is (WritesTo-sliced old mid new c.args.bytes.now c.loop-turn.rest.now w.in-Ok.count _ (omega arith)
          c.loop-turn.invariant w.in-Ok.ensures.bytes)
      | in-Err w ↦
          rw w.rest-is (WritesTo-kept old mid new c.args.bytes.now c.loop-turn.rest.now c.loop-turn.invariant
          w.in-Err.ensures.bytes)
    ]
