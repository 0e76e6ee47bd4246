use Rattle.std.proofs.Common.{◌≢◌, ℕ, List, Option, None, ap, arith, ◌∙◌, sym, subst}
use Rattle.iol_core.specs.NumberedLists.{lookup, without}
use Rattle.iol_desc.specs.EntryLists.{there, Listed}
use Rattle.iol_desc.proofs.Holes.{listed-taken, taken_held}
use Rattle.iol_desc.proofs.entries.Entries.take.Goals as goal

pub invariant_of-self : goal.invariant_of-self
invariant_of-self g c =
    rw c.replace-given.ensures.items
    (listed-taken _ _ _ _ c.self.invariant (subst (λ (l : Listed g.row.A.Denot). lookup l.entries c.args.number ≢ None)
    (sym c.self.view_is) c.requires))

pub returns : goal.returns
returns g c =
    let was = c.self.view_is in
    record {
      given = c.replace-given.ensures.given ∙ ap (λ (l : Listed g.row.A.Denot). lookup l.entries c.args.number) was;
      entries = c.trim.ensures.entries
          ∙ ap (λ (es : List (ℕ × Option g.row.A.Denot)). there es) c.replace-given.ensures.items
          ∙ taken_held _ _ c.args.number _ c.self.invariant
          ∙ ap (λ (l : Listed g.row.A.Denot). without l.entries c.args.number) was;
      next = c.trim.ensures.next ∙ ap (λ (l : Listed g.row.A.Denot). l.next) was;
      room =
          omega (
            arith,
            c.trim.ensures.room,
            c.replace-given.ensures.room,
            ap (λ (l : Listed g.row.A.Denot). l.room) was,
          );
    }
