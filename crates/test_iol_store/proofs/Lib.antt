pub mod Caching
pub mod Sharing
