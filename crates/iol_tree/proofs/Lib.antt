mod Lengths
pub mod Fillings
mod Parts
mod Paths
mod Listed
pub mod SameNames
mod SameStamps
mod Totals
