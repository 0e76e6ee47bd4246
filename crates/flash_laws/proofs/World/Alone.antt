pub mod Consistencies
pub mod Sends
pub mod Files
pub mod Phases
