pub mod Ranks
pub mod Order
pub mod Victims
pub mod Indexes
