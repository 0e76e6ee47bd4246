use Rattle.std.proofs.Common.{◌<◌}
use Rattle.std.specs.List.{All}
use Rattle.iol_arena.specs.State.{chunk_count}
use Rattle.test_iol_store.proofs.tests.arenas.use_two.Given as goal

abbrev pub invariant-loop : goal.invariant-loop
invariant-loop g l = All (λ c. c < chunk_count l.arena) l.set
