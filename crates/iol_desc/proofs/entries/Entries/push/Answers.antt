use Rattle.std.proofs.Common.{ℕ, ◌+◌, ◌∙◌, List, [], ◌∷◌, ◌++◌, Option, ap, arith}
use Rattle.iol_desc.specs.EntryLists.{there, IsListed, Listed}
use Rattle.iol_desc.proofs.Holes.{listed-push, there-push}
use Rattle.iol_desc.proofs.entries.Entries.push.Goals as goal

pub invariant_of-self : goal.invariant_of-self
invariant_of-self g c = rw c.push_reserved.ensures.items (listed-push _ _ _ _ c.self.invariant)

pub returns : goal.returns
returns g c =
    let was = c.self.view_is in
    let listed : IsListed c.self.inside.holes (c.self.inside.next + 1) c.push_reserved.new.self.items =
    rw c.push_reserved.ensures.items (listed-push _ _ _ _ c.self.invariant) in
    record {
      number = ap (λ (l : Listed g.row.A.Denot). l.next) was;
      entries = ap (λ (es : List (ℕ × Option g.row.A.Denot)). there es) c.push_reserved.ensures.items
          ∙ there-push c.self.inside.list.items c.self.inside.next c.args.value
          ∙ ap (λ (l : Listed g.row.A.Denot). l.entries ++ (l.next, c.args.value) ∷ []) was;
      next = ap (λ (l : Listed g.row.A.Denot). l.next + 1) was;
      short = omega (arith, listed.count);
      room =
          omega (
            arith,
            c.push_reserved.ensures.len,
            c.push_reserved.ensures.capacity,
            ap (λ (l : Listed g.row.A.Denot). l.room) was,
          );
    }
