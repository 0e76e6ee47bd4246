pub mod FirstCall
pub mod Waits
pub mod Texts
pub mod Output
pub mod Frames
pub mod Clients
pub mod RunsOn
pub mod Offers
