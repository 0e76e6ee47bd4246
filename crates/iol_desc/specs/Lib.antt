pub mod Tables
pub mod EntryLists
pub mod Lowest
pub mod Loans
pub mod Prelude
