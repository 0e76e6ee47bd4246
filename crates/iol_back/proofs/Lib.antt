pub mod Contents
mod Examples
pub mod Names
