use Rattle.std.proofs.Common.{ℕ, List, Option, ap, arith, length, ◌∙◌}
use Rattle.std.proofs.lemmas.List.Sums.{length-filter, count_by-le-length}
use Rattle.std.specs.Prelude.{is_some}
use Rattle.iol_desc.specs.EntryLists.{there, Listed}
use Rattle.iol_desc.proofs.Holes.{listed-held, there-held}
use Rattle.iol_desc.proofs.entries.Entries.compact.Goals as goal

pub invariant_of-self : goal.invariant_of-self
invariant_of-self g c = rw c.close_holes.ensures.items (listed-held _ _ _ c.self.invariant)

pub returns-clause-entries : goal.returns-clause-entries
returns-clause-entries g c =
    ap (λ (es : List (ℕ × Option g.row.A.Denot)). there es) c.close_holes.ensures.items
    ∙ there-held c.self.inside.list.items ∙ ap (λ (l : Listed g.row.A.Denot). l.entries) c.self.view_is

pub returns-clause-room : goal.returns-clause-room
returns-clause-room g c =
    let is = ap (λ (l : Listed g.row.A.Denot). l.room) c.self.view_is in
    let held = ap (λ (es : List (ℕ × Option g.row.A.Denot)). length es) c.close_holes.ensures.items in
    let held_in = λ (e : ℕ × Option g.row.A.Denot). is_some e.1 in
    let counted = length-filter held_in c.self.inside.list.items in
    let few = count_by-le-length held_in c.self.inside.list.items in
    omega (arith, is, held, counted, few, c.close_holes.ensures.capacity)
