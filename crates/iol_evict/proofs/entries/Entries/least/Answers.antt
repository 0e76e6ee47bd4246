use Rattle.std.proofs.Common.{sym, subst, All}
use Rattle.iol_evict.specs.Order.{Table}
use Rattle.iol_evict.specs.Victims.{AreUsedBelow, FindsFirst}
use Rattle.iol_evict.proofs.Below.{keys-below, below-keys}
use Rattle.iol_evict.proofs.Changes.{index-heights}
use Rattle.iol_evict.proofs.Firsts.{victim-first, entries-none, ask-heights, match-map}
use Rattle.iol_evict.proofs.entries.Entries.least.Goals as goal

pub first_idle-requires : goal.first_idle-requires
first_idle-requires g c =
    let used = g.U.InUse.in_use c.args.users.now in
    let ask = g.U.InUse.can_ask c.args.users.now in
    record {
      index = index-heights _ _ _ c.self.invariant.indexed;
      ask =
          ask-heights ask _ _ _ c.self.invariant.indexed
          (subst (λ (t : Table). All (λ e. ask e.file e.at) t.entries) (sym c.self.view_is) c.requires.ask);
      below =
          keys-below used c.args.passed.now _ _ _ c.self.invariant.indexed
          (subst (λ (t : Table). AreUsedBelow used c.args.passed.now t.entries) (sym c.self.view_is) c.requires.below);
    }

pub returns : goal.returns
returns g c =
    let used = g.U.InUse.in_use c.args.users.now in
    subst (λ (t : Table). FindsFirst used c.first_idle.new.passed t.entries c.first_idle.result) c.self.view_is
    (record {
      first =
          match-map c.first_idle.result (entries-none _ _ _ c.self.invariant.indexed)
          (λ place. victim-first used _ _ _ place c.self.invariant.indexed) c.first_idle.ensures.first;
      below = below-keys used c.first_idle.new.passed _ _ _ c.self.invariant.indexed c.first_idle.ensures.below;
    })
