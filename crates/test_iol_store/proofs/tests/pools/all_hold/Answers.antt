use Rattle.std.proofs.Common.{sym, subst, List}
use Rattle.iol_arena.specs.NewArena.{IsAllFree}
use Rattle.iol_arena.specs.State.{State}
use Rattle.iol_pool.specs.Pools.{Pool}
use Rattle.iol_pool.specs.Owners.{AreOwned}
use Rattle.iol_pool.proofs.Owners.{owned_none}
use Rattle.iol_hold.proofs.NewStore.{none_taken}
use Rattle.iol_agg.proofs.KnownHolds.{of_ok}
use Rattle.test_iol_store.proofs.tests.pools.all_hold.Goals as goal

pub create-requires-clause-owned : goal.create-requires-clause-owned
create-requires-clause-owned g c =
    let a = c.expect-arena.result in
    let taken =
    (of_ok (λ (s : State). IsAllFree s 3 4294967295) c.new.result a c.new.ensures.all_free
    c.expect-arena.ensures).taken in
    subst (λ (l : List Pool). AreOwned a l) (sym c.new-pools.ensures) (owned_none a (none_taken a.taken 3 taken))
