pub mod Distinct
pub mod Admission
pub mod Counts
pub mod Owners
