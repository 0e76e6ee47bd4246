pub mod Advance
pub mod Falls
pub mod Replies
