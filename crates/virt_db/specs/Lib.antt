pub mod Fault
pub mod Legs
pub mod Names
pub mod Lent
