pub mod Tiers
pub mod Blocks
