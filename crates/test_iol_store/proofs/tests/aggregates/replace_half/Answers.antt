use Rattle.std.proofs.Common.{[], arith}
use Rattle.iol_hold.specs.Moves.{Shares}
use Rattle.iol_hold.specs.Texts.{bufs_of}
use Rattle.iol_agg.proofs.KnownHolds.{of_ok, held_thrice, made_covers}
use Rattle.test_iol_store.proofs.tests.aggregates.replace_half.Goals as goal

pub replace-requires-clause-countable : goal.replace-requires-clause-countable
replace-requires-clause-countable g c = held_thrice c.args.agg.now c.requires (omega arith)

pub release-requires : goal.release-requires
release-requires g c =
    made_covers (of_ok (λ a. Shares c.args.store.now c.replace.new.store [] (bufs_of a)) c.replace.result
    c.expect-more.result c.replace.ensures.shares c.expect-more.ensures)
