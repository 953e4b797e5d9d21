pub mod Calls
pub mod Planned
