use Rattle.std.proofs.Common.{arith}
use Rattle.iol_agg.proofs.KnownHolds.{held_countable}
use Rattle.test_iol_store.proofs.tests.pipes.takes.Goals as goal

pub take-requires-clause-countable : goal.take-requires-clause-countable
take-requires-clause-countable g c = held_countable c.args.pipe.now c.requires (omega arith)
