pub mod Rest
pub mod Reasons
pub mod Calls
pub mod Waits
pub mod OfFiles
pub mod OfPools
pub mod FromOutside
