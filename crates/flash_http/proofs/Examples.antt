pub mod Windows
pub mod Fields
pub mod Targets
pub mod Ranges
pub mod Requests
pub mod Responses
pub mod Chunks
