-- Re-exports the definitions that contracts of other crates cite. It declares nothing.
pub use Rattle.iol_extent.specs.Extents.{Adds, Extent, IsApart, IsGap, begins_at, end_of, last_end, meets, unmet}
pub use Rattle.iol_extent.specs.Extents.{without_at}
pub use Rattle.iol_extent.specs.Spans.{AreInOrder}
