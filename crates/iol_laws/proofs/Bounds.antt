pub mod ShortAggregates
pub mod ShortQueues
pub mod Lengths
