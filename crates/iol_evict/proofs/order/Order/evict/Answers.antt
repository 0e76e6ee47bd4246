use Rattle.std.proofs.Common.{sym, subst}
use Rattle.iol_evict.specs.Order.{Ranking, Table}
use Rattle.iol_evict.specs.Victims.{AreUsedBelow}
use Rattle.iol_evict.proofs.Below.{below-without}
use Rattle.iol_evict.proofs.order.Order.evict.Goals as goal

pub returns-then-entry-le-MAX_LOW-clause-below : goal.returns-then-entry-le-MAX_LOW-clause-below
returns-then-entry-le-MAX_LOW-clause-below c = λ used below. (
    let passed = c.args.passed.now in
    let was = subst (λ (r : Ranking). AreUsedBelow used passed r.entries) (sym c.self.view_is) below in
    subst (λ (t : Table). AreUsedBelow used passed t.entries) (sym c.remove-entry.ensures.rest)
    (below-without used passed c.self.inside.entries.entries c.args.file c.args.at was))
