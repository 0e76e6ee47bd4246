pub mod Pieces
pub mod Sums
pub mod Laws
pub mod Prelude
