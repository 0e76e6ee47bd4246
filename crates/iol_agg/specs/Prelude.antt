-- Re-exports the definitions that contracts of other crates cite.
pub use Rattle.iol_agg.specs.KnownHolds.{IsHeldBy}
pub use Rattle.iol_agg.specs.Pours.{AreShareable}
