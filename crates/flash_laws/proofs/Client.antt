pub mod Phases
pub mod DoneCalls
pub mod Progress
pub mod Frame
pub mod TakenBytes
pub mod Alone
pub mod OfferedBytes
pub mod Holdings
