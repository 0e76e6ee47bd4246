use Rattle.std.proofs.Common.{arith}
use Rattle.iol_agg.proofs.KnownHolds.{held_countable}
use Rattle.test_iol_store.proofs.tests.aggregates.split_and_join.Goals as goal

pub split-requires-clause-countable : goal.split-requires-clause-countable
split-requires-clause-countable g c = held_countable c.args.agg c.requires (omega arith)
