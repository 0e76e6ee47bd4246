use Rattle.std.proofs.Common.{[], arith}
use Rattle.iol_hold.specs.Moves.{Shares}
use Rattle.iol_hold.specs.Texts.{bufs_of}
use Rattle.iol_agg.proofs.KnownHolds.{of_ok, held_countable, made_covers}
use Rattle.test_iol_store.proofs.tests.aggregates.copy_half.Goals as goal

pub cut-requires-clause-countable : goal.cut-requires-clause-countable
cut-requires-clause-countable g c = held_countable c.args.agg.now c.requires (omega arith)

pub release-requires : goal.release-requires
release-requires g c =
    made_covers (of_ok (λ a. Shares c.args.store.now c.cut.new.store [] (bufs_of a)) c.cut.result c.expect-part.result
    c.cut.ensures.shares c.expect-part.ensures)
