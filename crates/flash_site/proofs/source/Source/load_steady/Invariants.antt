use Rattle.std.proofs.Common.{◌≡◌}
use Rattle.flash_site.proofs.source.Source.load_steady.Given as goal

abbrev pub invariant-loop : goal.invariant-loop
invariant-loop g l = l.self ≡ l.fn.self
