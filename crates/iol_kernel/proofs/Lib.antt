pub mod State
pub mod FileCalls
pub mod AggregateCalls
pub mod Connections
pub mod Queues
pub mod Fronts
