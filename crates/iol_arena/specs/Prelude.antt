-- Re-exports the definitions that contracts of other crates cite.
pub use Rattle.iol_arena.specs.Adds.{Adds, IsNew}
pub use Rattle.iol_arena.specs.Buffers.{address_of, Grows, HasRange, IsLive, IsUnraised, SharesNoPage, bytes_in}
pub use Rattle.iol_arena.specs.Buffers.{bytes_of, len_of, live_pages}
pub use Rattle.iol_arena.specs.Chunks.{free_chunks, free_pages, is_unused, retired_pages, usable}
pub use Rattle.iol_arena.specs.Fillings.{AreReserved, IsReserved, IsZero}
pub use Rattle.iol_arena.specs.NewArena.{IsAllFree}
pub use Rattle.iol_arena.specs.Pages.{AreUsable, IsSameBut, MadeOn, Raises, begun_on}
pub use Rattle.iol_arena.specs.Parts.{AreAll, AreApart, IsSameAround, IsWaiting, MayCopy, MayFill, Shows, needed_pages}
pub use Rattle.iol_arena.specs.Parts.{part_bytes, part_pages, spare_pages}
pub use Rattle.iol_arena.specs.State.{State, chunk_count, no_entry, page_count, pages_for, with_bytes_at}
