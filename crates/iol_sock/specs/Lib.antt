pub mod Calls
pub mod Connections
pub mod Gathers
pub mod Meanings
pub mod Refusals
pub mod SentBytes
pub mod Table
