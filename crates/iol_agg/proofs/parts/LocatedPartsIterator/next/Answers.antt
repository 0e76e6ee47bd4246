use Rattle.std.proofs.Common.{subst}
use Rattle.iol_hold.specs.Texts.{AllReadable}
use Rattle.iol_hold.proofs.ReadSlices.{readable_first, readable_later}
use Rattle.iol_agg.proofs.parts.LocatedPartsIterator.next.Goals as goal

pub located_bytes-requires : goal.located_bytes-requires
located_bytes-requires c =
    readable_first c.in_ok-first.first.now c.in_ok-first.others.now
    (subst (AllReadable c.self.inside.store.now) c.in_ok-first.ensures.cases.0 c.self.invariant)

pub invariant_of-self : goal.invariant_of-self
invariant_of-self c =
    readable_later c.in_ok-first.first.now c.in_ok-first.others.now
    (subst (AllReadable c.self.inside.store.now) c.in_ok-first.ensures.cases.0 c.self.invariant)
