use Rattle.std.proofs.Common.{map}
use Rattle.iolite.proofs.ScriptWords.{Judging}
use Rattle.iolite.proofs.script.judge.Given as goal

abbrev pub invariant-loop-place : goal.invariant-loop-place
invariant-loop-place l = Judging (map (λ p. p.1.now) l.yielded) l.judged.setup l.judged.has_asked
