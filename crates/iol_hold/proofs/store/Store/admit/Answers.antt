use Rattle.std.proofs.Common.{◌≡◌, true, List, sym, subst}
use Rattle.iol_core.specs.NumberedLists.{is_numbered}
use Rattle.iol_pool.specs.Pools.{Pool}
use Rattle.iol_hold.specs.StoreState.{Stored, IsTidy, with_pools}
use Rattle.iol_hold.specs.View.{stored}
use Rattle.iol_hold.proofs.Admission.{admitted_moves}
use Rattle.iol_hold.proofs.store.Store.admit.Goals as goal

pub invariant_of-self : goal.invariant_of-self
invariant_of-self c =
    let s : Stored = stored c.self.inside in
    let there = subst (λ (x : Stored). is_numbered x.pools c.args.p ≡ true) (sym c.self.view_is) c.requires.there in
    record {
      counts = c.self.invariant.counts;
      tidy =
          subst (λ (ps : List Pool). IsTidy (with_pools s ps)) (sym c.admit.ensures)
          ((admitted_moves s c.args.p c.args.d there).tidy c.self.invariant.tidy);
    }
