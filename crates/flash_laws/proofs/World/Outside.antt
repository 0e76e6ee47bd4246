pub mod JobQueues
pub mod Conns
pub mod Acts
pub mod Peers
pub mod Whole
