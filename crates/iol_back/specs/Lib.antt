pub mod Disk
pub mod Faulty
pub mod Folder
pub mod Lists
pub mod Memory
pub mod Prelude
