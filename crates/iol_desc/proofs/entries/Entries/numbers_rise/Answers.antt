use Rattle.std.proofs.Common.{subst}
use Rattle.iol_desc.specs.EntryLists.{Listed, Rises}
use Rattle.iol_desc.proofs.Holes.{there_rises}
use Rattle.iol_desc.proofs.entries.Entries.numbers_rise.Goals as goal

pub returns : goal.returns
returns g c =
    subst (λ (l : Listed g.row.A.Denot). Rises 0 l.entries l.next) c.self.view_is (there_rises _ _ _ c.self.invariant)
