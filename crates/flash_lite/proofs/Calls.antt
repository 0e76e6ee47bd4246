pub mod FirstRefusal
pub mod PassedRuns
pub mod DomainsAndPools
pub mod FileCalls
pub mod JobPipes
pub mod Outcome
pub mod AnyStore
