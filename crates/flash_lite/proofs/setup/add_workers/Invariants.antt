use Rattle.flash_lite.specs.Setup.{HasWorkers}
use Rattle.flash_lite.proofs.setup.add_workers.Given as goal

abbrev pub invariant-loop-k : goal.invariant-loop-k
invariant-loop-k l = HasWorkers l.fn.actors.items l.k l.actors.items
