use Rattle.iolite.specs.Answers.{WritesTo}
use Rattle.iolite.proofs.output.write_out.Given as goal

abbrev pub invariant-loop-turn : goal.invariant-loop-turn
invariant-loop-turn g l = WritesTo (g.W.Write.contents l.fn.output) (g.W.Write.contents l.output) l.bytes l.rest
