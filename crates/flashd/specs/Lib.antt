pub mod Announcement
pub mod Command
pub mod Faults
pub mod Looks
pub mod Options
pub mod Records
