pub mod Extents
pub mod Spans
pub mod Laws
pub mod Keys
pub mod Prelude
