use Rattle.std.proofs.Common.{◌≢◌, ℕ, List, Option, None, ap, arith, ◌∙◌, sym, subst}
use Rattle.iol_core.specs.NumberedLists.{lookup}
use Rattle.iol_desc.specs.Tables.{exchanged}
use Rattle.iol_desc.specs.EntryLists.{there, Listed}
use Rattle.iol_desc.proofs.Holes.{listed-exchanged, exchanged_held}
use Rattle.iol_desc.proofs.entries.Entries.swap.Goals as goal

pub invariant_of-self : goal.invariant_of-self
invariant_of-self g c =
    rw c.replace.ensures.items
    (listed-exchanged _ _ _ _ _ c.self.invariant
    (subst (λ (l : Listed g.row.A.Denot). lookup l.entries c.args.number ≢ None) (sym c.self.view_is) c.requires))

pub returns : goal.returns
returns g c =
    let was = c.self.view_is in
    let found = subst (λ (l : Listed g.row.A.Denot). lookup l.entries c.args.number ≢ None) (sym c.self.view_is)
    c.requires in
    record {
      given = c.replace.ensures.given ∙ ap (λ (l : Listed g.row.A.Denot). lookup l.entries c.args.number) was;
      entries = ap (λ (es : List (ℕ × Option g.row.A.Denot)). there es) c.replace.ensures.items
          ∙ exchanged_held _ _ c.args.number _ c.args.other c.self.invariant found
          ∙ ap (λ (l : Listed g.row.A.Denot). exchanged l.entries c.args.number c.args.other) was;
      next = ap (λ (l : Listed g.row.A.Denot). l.next) was;
      room = omega (arith, c.replace.ensures.room, ap (λ (l : Listed g.row.A.Denot). l.room) was);
    }
