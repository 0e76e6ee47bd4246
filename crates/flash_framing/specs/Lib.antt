pub mod Framing
pub mod Progress
