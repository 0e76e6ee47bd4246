pub mod Date
pub mod Head
pub mod Line
