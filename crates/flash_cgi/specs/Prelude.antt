-- Re-exports the definitions that contracts of other crates cite. It declares nothing.
pub use Rattle.flash_cgi.specs.Standstill.{HasWaited}
pub use Rattle.flash_cgi.specs.Works.{IsNew, worker_turns}
pub use Rattle.flash_cgi.specs.Expected.{Made}
