use Rattle.std.proofs.Common.{◌≡◌, ◌∙◌, false, sym, subst}
use Rattle.iol_pool.specs.Pools.{pool_in}
use Rattle.bench_sums.proofs.remembered.Goals as goal

pub fill-requires : goal.fill-requires
fill-requires c = record {
  «open» = subst (λ ps. (pool_in ps c.in_ok-pool.pool).closed ≡ false) c.pools.ensures (sym c.is_closed.ensures
      ∙ c.if-is_closed.false);
}

-- a new cache is right of any store
pub sum_remembered_often-requires-clause-right : goal.sum_remembered_often-requires-clause-right
sum_remembered_often-requires-clause-right c = c.in_ok-sums.ensures.right c.fill.new.store.arena
