-- The definitions that contracts of other crates cite, re-exported from one place.
pub use Rattle.iol_pipe.specs.NewBytes.{AddsFitting, SharesFitting}
pub use Rattle.iol_pipe.specs.Arrivals.{IsOneRead}
pub use Rattle.iol_pipe.specs.Queue.{GivesFirst, first_parts, first_pool, fitting, may_see}
