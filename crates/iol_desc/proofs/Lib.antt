pub mod TakenPlaces
pub mod Rows
pub mod LiveCounts
pub mod RisingNumbers
pub mod Holes
