-- Re-exports the definitions that contracts of other crates cite. It declares nothing.
pub use Rattle.flash_lite.specs.Setup.{is_in_range}
pub use Rattle.flash_lite.specs.SharedFiles.{AreFilesOf}
