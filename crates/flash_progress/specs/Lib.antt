pub mod Bound
pub mod Served
pub mod Hosted
