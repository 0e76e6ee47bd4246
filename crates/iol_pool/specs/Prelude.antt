-- Re-exports the definitions that contracts of other crates cite.
pub use Rattle.iol_pool.specs.Calls.{ReportsPool}
pub use Rattle.iol_pool.specs.Owners.{AreOwned}
pub use Rattle.iol_pool.specs.Pools.{AddsPool, names_in, pool_in, with_admitted, with_closed}
