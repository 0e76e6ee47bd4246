use Rattle.std.proofs.Common.{subst}
use Rattle.iol_hold.specs.Texts.{AllReadable}
use Rattle.iol_hold.proofs.ReadSlices.{readable_first, readable_later}
use Rattle.iol_agg.proofs.parts.PartsIterator.next.Goals as goal

pub bytes-requires : goal.bytes-requires
bytes-requires c =
    readable_first c.in_ok-first.first.now c.in_ok-first.rest.now
    (subst (AllReadable c.self.inside.store.now) c.in_ok-first.ensures.cases.0 c.self.invariant)

pub invariant_of-self : goal.invariant_of-self
invariant_of-self c =
    readable_later c.in_ok-first.first.now c.in_ok-first.rest.now
    (subst (AllReadable c.self.inside.store.now) c.in_ok-first.ensures.cases.0 c.self.invariant)
