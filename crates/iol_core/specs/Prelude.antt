-- Re-exports the definitions that contracts of other crates cite. It declares nothing.
pub use Rattle.iol_core.specs.Calls.Aggregates.{default_pool, lacks_agg, show, too_many_aggs}
pub use Rattle.iol_core.specs.Calls.Descriptors.{closed_on, freed, too_many_open, with_fds}
pub use Rattle.iol_core.specs.Calls.Files.{file_called, file_on, open_on}
pub use Rattle.iol_core.specs.Calls.Outside.{lacks_conn}
pub use Rattle.iol_core.specs.Calls.Pools.{distinct, has_place, with_name}
pub use Rattle.iol_core.specs.Checksum.{checksum, folded}
pub use Rattle.iol_core.specs.Configuration.{IsInRange}
pub use Rattle.iol_core.specs.Meaning.{FaultOf, Never, Step, WantOfMemory, WantOfRoom, WantOfRoomOrFault, first}
pub use Rattle.iol_core.specs.NumberedLists.{changed, in_place, is_numbered, lookup, lowest, numbered_or, placed, taken}
pub use Rattle.iol_core.specs.NumberedLists.{with_numbered, without}
pub use Rattle.iol_core.specs.Run.{Run}
pub use Rattle.iol_core.specs.State.{State, conn_at, content, descriptor, domain, is_gone, is_live, is_pool, may_read}
pub use Rattle.iol_core.specs.State.{new_domain, new_state, no_domain, text, with_conn, with_domain}
pub use Rattle.iol_core.specs.Text.{barred, bytes_of}
