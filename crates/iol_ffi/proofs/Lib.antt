pub mod AsBox
pub mod Executed
pub mod Memory
pub mod Placing
pub mod Rooms
pub mod Runs
