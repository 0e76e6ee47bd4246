-- The definitions that contracts of other crates cite, re-exported. Declares nothing.
pub use Rattle.iol_arena.specs.Prelude.{no_entry}
pub use Rattle.iol_pool.specs.declared.report.PoolReport.{PoolReport}
pub use Rattle.iol_kernel.specs.FileCalls.{StepsBeside}
unfoldable pub use Rattle.iol_kernel.specs.FileCalls.{with_slots}
pub use Rattle.iol_kernel.specs.KernelState.{IsSound, KernelState}
unfoldable pub use Rattle.iol_kernel.specs.KernelState.{read_of}
pub use Rattle.iol_kernel.specs.Prelude.{Rises, TakesIn, slots_of}
pub use Rattle.iol_kernel.specs.Report.{Counts}
unfoldable pub use Rattle.iol_kernel.specs.Views.{state_view}
pub use Rattle.iol_kernel.specs.declared.report.Report.{Report}
pub use Rattle.iol_system.specs.Machine.{SystemState, machine_of, tables_of}
pub use Rattle.iol_system.specs.Safe.{IsSafe}
pub use Rattle.iol_system.specs.Streams.{ServesFrom, ServesTo}
