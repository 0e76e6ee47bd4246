pub mod JoinedKeys
pub mod Shifts
pub mod BlockKeys
pub mod EmptyBlocks
