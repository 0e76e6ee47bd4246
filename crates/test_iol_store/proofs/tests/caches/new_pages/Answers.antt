use Rattle.iol_arena.specs.NewArena.{IsAllFree}
use Rattle.iol_hold.specs.StoreState.{Stored, IsTidy}
use Rattle.iol_agg.proofs.KnownHolds.{held_none, of_ok}
use Rattle.test_iol_store.proofs.Caching.{new_ready}
use Rattle.test_iol_store.proofs.tests.caches.new_pages.Given.{Over}
use Rattle.test_iol_store.proofs.tests.caches.new_pages.Goals as goal
use Rattle.test_iol_store.proofs.tests.caches.new_pages.Goals.{After-expect}

-- all pages are free
free : (g : Over) (c : After-expect g) → IsAllFree c.expect.result.arena 2 4294967295
free g c = of_ok (λ (s : Stored). IsAllFree s.arena 2 4294967295) c.new.result c.expect.result c.new.ensures.all_free
    c.expect.ensures

pub returns-clause-ready : goal.returns-clause-ready
returns-clause-ready g c = new_ready c.expect.result (free g (goal.at.returns-clause-ready g c).After-expect).entries
    (of_ok IsTidy c.new.result c.expect.result c.new.ensures.tidy c.expect.ensures)

pub returns-clause-none : goal.returns-clause-none
returns-clause-none g c = held_none c.expect.result 32 (free g (goal.at.returns-clause-none g c).After-expect).entries
