-- Re-exports the definitions that contracts of other crates cite. It declares nothing.
pub use Rattle.iol_laws.specs.Caller.{is_resource_failure}
