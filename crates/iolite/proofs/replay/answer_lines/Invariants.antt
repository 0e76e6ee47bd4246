use Rattle.std.proofs.Common.{map}
use Rattle.iolite.specs.Answers.{Answering}
use Rattle.iolite.proofs.replay.answer_lines.Given as goal

abbrev pub invariant-loop-line : goal.invariant-loop-line
invariant-loop-line g l =
    Answering (map (λ x. x.now) l.yielded) l.fn.system l.system (g.W.Write.contents l.fn.output)
    (g.W.Write.contents l.output) l.pending.items
