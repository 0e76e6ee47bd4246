use Rattle.std.proofs.Common.{◌≡◌, ◌≢◌, ◌-◌, ℕ, List, Option, None, ap, ◌∙◌, sym, subst, refl, vec_len, vec_capacity}
use Rattle.iol_core.specs.NumberedLists.{lookup}
use Rattle.iol_desc.specs.Tables.{place_in}
use Rattle.iol_desc.specs.EntryLists.{Listed}
use Rattle.iol_desc.specs.Loans.{with_entry}
use Rattle.iol_desc.proofs.Holes.{lent_entry, lookup_entry}
use Rattle.iol_desc.proofs.entries.Entries.value_mut.Goals as goal

pub invariant_of-self-lent : goal.invariant_of-self-lent
invariant_of-self-lent g c w =
    let found = subst (λ (l : Listed g.row.A.Denot). lookup l.entries c.args.number ≢ None) (sym c.self.view_is)
    c.requires in
    let at = c.place_of-at.ensures ∙ ap (λ (es : List (ℕ × Option g.row.A.Denot)). place_in es c.args.number)
    c.deref.ensures.value in
    (lent_entry _ _ c.args.number _ _ c.index_mut.result.now w c.self.invariant found at c.index_mut.ensures.value).0

pub returns : goal.returns
returns g c =
    let found = subst (λ (l : Listed g.row.A.Denot). lookup l.entries c.args.number ≢ None) (sym c.self.view_is)
    c.requires in
    let at = c.place_of-at.ensures ∙ ap (λ (es : List (ℕ × Option g.row.A.Denot)). place_in es c.args.number)
    c.deref.ensures.value in
    let room : ℕ = vec_capacity c.self.inside.list - vec_len c.self.inside.list in (
      (
        refl,
        λ w. ap (λ (es : List (ℕ × g.row.A.Denot)). record { entries = es; next = c.self.inside.next; room = room })
            (lent_entry _ _ c.args.number _ _ c.index_mut.result.now w c.self.invariant found at
            c.index_mut.ensures.value).1
            ∙ ap (λ (l : Listed g.row.A.Denot). with_entry l c.args.number w) c.self.view_is,
      ),
      record {
        writes_back = tt;
        value = subst (λ (l : Listed g.row.A.Denot). lookup l.entries c.args.number ≡ c.index_mut.result.now.1)
            c.self.view_is (lookup_entry _ _ c.args.number _ _ c.index_mut.result.now c.self.invariant found at
            c.index_mut.ensures.value) ∙ c.occupant.ensures.value;
      },
    )
