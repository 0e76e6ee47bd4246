use Rattle.std.proofs.Common.{arith}
use Rattle.iol_agg.proofs.KnownHolds.{held_countable}
use Rattle.test_iol_store.proofs.tests.aggregates.adds.Goals as goal

pub add_range-requires-clause-countable : goal.add_range-requires-clause-countable
add_range-requires-clause-countable g c = held_countable c.args.agg.now c.requires (omega arith)
