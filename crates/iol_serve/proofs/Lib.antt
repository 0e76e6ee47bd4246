pub mod Drains
pub mod ConnEnd
pub mod Rounds
pub mod Steps
pub mod Whole
