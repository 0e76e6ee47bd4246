use Rattle.std.proofs.Common.{ap, ◌∙◌}
use Rattle.iol_desc.specs.EntryLists.{Listed}
use Rattle.iol_desc.proofs.Holes.{listed_without_hole}
use Rattle.iol_desc.proofs.entries.Entries.trim_one.Goals as goal

pub overflow_sub-self : goal.overflow_sub-self
overflow_sub-self g c = (listed_without_hole _ _ _ _ c.self.invariant c.if-not-drop_hole.ensures.hole).0

pub invariant_of-self-2 : goal.invariant_of-self-2
invariant_of-self-2 g c = (listed_without_hole _ _ _ _ c.self.invariant c.if-not-drop_hole.ensures.hole).1

pub returns-clause-entries : goal.returns-clause-entries
returns-clause-entries g c =
    (listed_without_hole _ _ _ _ c.self.invariant c.if-not-drop_hole.ensures.hole).2
    ∙ ap (λ (l : Listed g.row.A.Denot). l.entries) c.self.view_is
