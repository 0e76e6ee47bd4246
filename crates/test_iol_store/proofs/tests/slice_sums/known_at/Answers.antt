use Rattle.std.proofs.Common.{sym, subst, arith}
use Rattle.iol_hold.specs.Texts.{AllReadable}
use Rattle.iol_sum.proofs.PieceSums.{readable-item}
use Rattle.test_iol_store.proofs.tests.slice_sums.known_at.Goals as goal

pub remembered-requires-clause-readable : goal.remembered-requires-clause-readable
remembered-requires-clause-readable g c =
    let slices = c.slices-slices.result.now in
    readable-item slices c.args.at c.index-slices-at.result (omega arith) c.index-slices-at.is
    (subst (AllReadable c.args.store.now) (sym c.slices-slices.ensures) c.requires.readable)
