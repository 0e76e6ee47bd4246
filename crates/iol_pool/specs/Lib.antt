pub mod Pools
pub mod Names
pub mod Owners
pub mod Calls
pub mod Prelude
