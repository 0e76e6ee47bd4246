-- The definitions that the contracts cite.
pub mod Creation
pub mod Events
pub mod Handles
pub mod Memory
pub mod Parts
pub mod Replies
pub mod Reports
pub mod Room
pub mod Runs
pub mod Steps
pub mod Store
pub mod Streams
