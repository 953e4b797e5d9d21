pub mod Lookup
pub mod Names
pub mod Rules
pub mod Smallest
pub mod Sound
