use Rattle.std.proofs.Common.{arith}
use Rattle.iol_agg.proofs.KnownHolds.{of_ok, moved_covers}
use Rattle.iol_pipe.specs.NewBytes.{SharesFitting}
use Rattle.iol_pipe.proofs.KnownHolds.{beside_countable, beside_covers, held_pushed}
use Rattle.test_iol_store.proofs.tests.pipes.push.Given.{Over}
use Rattle.test_iol_store.proofs.tests.pipes.push.Goals as goal
use Rattle.test_iol_store.proofs.tests.pipes.push.Goals.{After-expect-taken}

pub push-requires-clause-covered : goal.push-requires-clause-covered
push-requires-clause-covered g c = moved_covers c.filled-agg.ensures.moves

pub push-requires-clause-countable : goal.push-requires-clause-countable
push-requires-clause-countable g c =
    beside_countable c.args.pipe.now c.filled-agg.result c.requires c.filled-agg.ensures.moves (omega arith)
    (omega arith)

-- what was pushed
shared : (g : Over) (c : After-expect-taken g)
    → SharesFitting c.filled-agg.new.store c.push.new.store c.args.pipe.now c.push.new.self c.filled-agg.result
    c.expect-taken.result
shared g c =
    of_ok (SharesFitting c.filled-agg.new.store c.push.new.store c.args.pipe.now c.push.new.self c.filled-agg.result)
    c.push.result c.expect-taken.result c.push.ensures.shares c.expect-taken.ensures

pub release-requires : goal.release-requires
release-requires g c =
    beside_covers c.requires c.filled-agg.ensures.moves
    (shared g (goal.at.release-requires g c).After-expect-taken).shares

pub returns : goal.returns
returns g c =
    held_pushed c.requires c.filled-agg.ensures.moves (shared g (goal.at.returns g c).After-expect-taken).shares
    c.release.ensures.moves
