pub mod Index
pub mod Stamp
pub mod Store
pub mod Walk
