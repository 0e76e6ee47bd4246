use Rattle.std.proofs.Common.{arith}
use Rattle.iol_hold.specs.Texts.{bufs_of}
use Rattle.iol_agg.proofs.KnownHolds.{of_ok, held_countable}
use Rattle.iol_pipe.specs.Queue.{GivesFirst}
use Rattle.iol_pipe.proofs.KnownHolds.{given_covers, held_given}
use Rattle.test_iol_store.proofs.tests.pipes.front.Given.{Over}
use Rattle.test_iol_store.proofs.tests.pipes.front.Goals as goal
use Rattle.test_iol_store.proofs.tests.pipes.front.Goals.{After-expect-given}

pub front-requires-clause-countable : goal.front-requires-clause-countable
front-requires-clause-countable g c = held_countable c.args.pipe.now c.requires (omega arith)

-- what was taken off
gives : (g : Over) (c : After-expect-given g)
    → GivesFirst c.args.store.now c.front.new.store c.args.pipe.now c.expect-given.result c.front.new.self c.args.n
    c.args.d
gives g c =
    of_ok (λ a. GivesFirst c.args.store.now c.front.new.store c.args.pipe.now a c.front.new.self c.args.n c.args.d)
    c.front.result c.expect-given.result c.front.ensures.gives c.expect-given.ensures

pub release-requires : goal.release-requires
release-requires g c =
    given_covers (bufs_of c.front.new.self) (bufs_of c.expect-given.result) c.requires
    (gives g (goal.at.release-requires g c).After-expect-given).shares

pub returns : goal.returns
returns g c =
    held_given (bufs_of c.front.new.self) (bufs_of c.expect-given.result) c.requires
    (gives g (goal.at.returns g c).After-expect-given).shares c.release.ensures.moves
