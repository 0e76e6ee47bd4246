-- The definitions that contracts of other crates cite, re-exported from one place.
pub use Rattle.iol_sum.specs.Sums.{IsRight}
