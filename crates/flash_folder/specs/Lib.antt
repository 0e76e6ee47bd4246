pub mod Announcement
pub mod Fault
pub mod Serving
pub mod World
