pub mod TurnParts
pub mod Invariant
pub mod Wants
pub mod FreeWorkers
pub mod Firsts
pub mod CopyFree
