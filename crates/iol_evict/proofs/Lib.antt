pub mod RankOrder
pub mod Places
pub mod Edits
pub mod Times
pub mod KeptOrder
pub mod EntryList
pub mod Indexes
pub mod Changes
pub mod Heights
pub mod Firsts
pub mod Below
mod Examples
