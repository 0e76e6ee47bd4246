pub mod Begins
pub mod Bytes
pub mod Found
