-- Re-exports the definitions that contracts of other crates cite. It declares nothing.
pub use Rattle.iol_back.specs.Disk.{Disk, IfHonest, IsSlot, raised}
