pub mod Histories
pub mod Served
pub mod Sessions
pub mod ConnEnd
