pub mod Clients
pub mod Requests
pub mod Visits
