pub mod Reads
pub mod World
