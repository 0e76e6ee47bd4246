use Rattle.iol_arena.specs.State.{State}
use Rattle.iol_agg.proofs.KnownHolds.{of_ok}
use Rattle.iol_sum.specs.Sums.{Sums, IsRight}
use Rattle.test_iol_store.proofs.tests.slice_sums.cache.Goals as goal

pub returns : goal.returns
returns g c = of_ok (λ (x : Sums). (s : State) → IsRight s x) c.new.result c.expect.result c.new.ensures.right
    c.expect.ensures c.args.store.now.arena
