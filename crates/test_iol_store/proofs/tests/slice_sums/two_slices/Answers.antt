use Rattle.std.proofs.Common.{◌≡◌, [], ◌++◌, List, sym, subst, arith}
use Rattle.iol_core.specs.declared.numbers.BufId.{BufId}
use Rattle.iol_hold.specs.StoreState.{Stored}
use Rattle.iol_hold.specs.Moves.{Moves, Covers}
use Rattle.iol_hold.specs.Texts.{AllReadable}
use Rattle.iol_hold.proofs.Counts.{tally_none}
use Rattle.iol_hold.proofs.ReadSlices.{readable_joined, readable_stays}
use Rattle.iol_agg.proofs.KnownHolds.{of_ok, moved_covers}
use Rattle.test_iol_store.proofs.tests.slice_sums.two_slices.Goals as goal

-- what is covered stays so where holds are only given
covers_on : {s t : Stored} {xs ys : List BufId} → Covers s xs → Moves s t [] ys → Covers t xs
covers_on c m = record { each = λ b. omega (arith, tally_none b, c.each b, m.counts.each b) }

pub returns : goal.returns
returns g c =
    let first = c.filled-first in
    let second = c.filled-second in
    let stays =
    readable_stays first.result second.ensures.moves.stays
    (covers_on (moved_covers first.ensures.moves) second.ensures.moves) first.ensures.readable in
    let joined : c.expect.result ≡ first.result ++ second.result =
    of_ok (λ a. a ≡ first.result ++ second.result) c.join.result c.expect.result c.join.ensures.joined
    c.expect.ensures in
    subst (AllReadable second.new.store) (sym joined) (readable_joined stays second.ensures.readable)
