pub mod Client
pub mod Histories
pub mod Kept
pub mod Truncated
pub mod Turns
pub mod Visited
