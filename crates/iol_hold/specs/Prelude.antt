-- Re-exports the definitions that contracts of other crates cite.
pub use Rattle.iol_hold.specs.Addresses.{Located, address_at, located, spread}
pub use Rattle.iol_hold.specs.Fillings.{IsFilling, filling_bytes, filling_parts}
pub use Rattle.iol_hold.specs.Moves.{Covers, IsCountable, Moves, SameLists, Stays}
pub use Rattle.iol_hold.specs.Places.{byte_len, places}
pub use Rattle.iol_hold.specs.Releases.{FreesOnly, Releases}
pub use Rattle.iol_hold.specs.Room.{ReportsRoom, has_room}
pub use Rattle.iol_hold.specs.StoreState.{AllReclaimed, Stored, count_of}
pub use Rattle.iol_hold.specs.Texts.{AllReadable, IsFilled, IsReadable, bufs_of, slice_bytes, text_of}
