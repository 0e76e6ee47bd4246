use Rattle.std.proofs.Common.{◌≡◌, map}
use Rattle.iolite.specs.Words.{value}
use Rattle.iolite.proofs.words.list_domains.Given as goal

abbrev pub invariant-loop-number : goal.invariant-loop-number
invariant-loop-number l = l.domains.items ≡ map value (map (λ x. x.now) l.yielded)
