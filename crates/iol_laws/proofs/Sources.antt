pub mod NewAggregates
pub mod Queues
pub mod PipeReads
