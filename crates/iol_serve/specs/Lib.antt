pub mod Laws
pub mod Rounds
pub mod Service
pub mod Prelude
