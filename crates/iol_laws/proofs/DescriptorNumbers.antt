pub mod Lowest
pub mod ByReplies
pub mod Low
