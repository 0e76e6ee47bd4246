pub mod Answered
pub mod Clients
pub mod Sites
