use Rattle.iol_agg.proofs.KnownHolds.{moved_covers}
use Rattle.iol_sum.proofs.KeptSums.{IsRight-keeps}
use Rattle.test_iol_store.proofs.tests.slice_sums.round.Goals as goal

pub known_at-known-requires-clause-right : goal.known_at-known-requires-clause-right
known_at-known-requires-clause-right g c =
    IsRight-keeps c.args.store.now.arena c.filled-agg.new.store.arena c.args.sums.now
    c.filled-agg.ensures.moves.stays.keeps c.requires

pub sum_at-sum-requires-clause-right : goal.sum_at-sum-requires-clause-right
sum_at-sum-requires-clause-right g c =
    IsRight-keeps c.args.store.now.arena c.filled-agg.new.store.arena c.args.sums.now
    c.filled-agg.ensures.moves.stays.keeps c.requires

pub release-requires : goal.release-requires
release-requires g c = moved_covers c.filled-agg.ensures.moves

pub returns : goal.returns
returns g c = IsRight-keeps c.filled-agg.new.store.arena c.release.new.store.arena c.sum_at-sum.new.sums
    c.release.ensures.moves.stays.keeps c.sum_at-sum.ensures
