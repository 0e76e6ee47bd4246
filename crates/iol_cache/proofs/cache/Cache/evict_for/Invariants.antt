use Rattle.std.proofs.Common.{Some, length}
use Rattle.iol_cache.specs.CacheState.{order_in}
use Rattle.iol_cache.specs.Cache.{holding}
use Rattle.iol_cache.proofs.Evictions.OneByOne.{EvictsOn}
use Rattle.iol_cache.proofs.cache.Cache.evict_for.Given as goal

abbrev pub invariant-loop-pool : goal.invariant-loop-pool
invariant-loop-pool l = EvictsOn l.pool (Some l.pages) (holding l.fn.store l.fn.self) (holding l.store l.self) l.passed

abbrev pub decreases-loop-pool : goal.decreases-loop-pool
decreases-loop-pool l = length (order_in l.self.orders.items l.pool).entries
