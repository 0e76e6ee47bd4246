-- The definitions that contracts of other crates cite, re-exported. Declares nothing.
pub use Rattle.iol_kernel.specs.Streams.{BringsIn, DrainsTo, RefusesArrival, RefusesDrain, TakesIn}
pub use Rattle.iol_kernel.specs.ReadsByCopy.{Copies, IsOnNoFile, ReadsOut}
pub use Rattle.iol_kernel.specs.Kernel.{ReadsList, Serves, state_of}
pub use Rattle.iol_kernel.specs.KernelState.{IsSound}
pub use Rattle.iol_kernel.specs.WritesByCopy.{WritesBytes}
pub use Rattle.iol_kernel.specs.Readings.{slots_of}
pub use Rattle.iol_kernel.specs.Report.{Reports}
pub use Rattle.iol_desc.specs.EntryLists.{Rises}
