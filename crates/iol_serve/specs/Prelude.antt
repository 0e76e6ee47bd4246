-- Re-exports the definitions that contracts of other crates cite. It declares nothing.
pub use Rattle.iol_serve.specs.Service.{hung_up}
