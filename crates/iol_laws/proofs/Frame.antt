pub mod Connections
pub mod Pipes
pub mod Queues
pub mod Descriptors
pub mod Files
pub mod Domains
pub mod Steps
