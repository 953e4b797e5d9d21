pub mod Requests
pub mod Load
