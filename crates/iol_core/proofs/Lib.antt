pub mod Examples
pub mod Lookups
pub mod Places
pub mod TestedLists
pub mod KeptAccess
pub mod Access
pub mod Values
pub mod Positions
