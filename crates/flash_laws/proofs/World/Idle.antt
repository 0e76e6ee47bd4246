pub mod Clients
pub mod Runs
pub mod Whole
