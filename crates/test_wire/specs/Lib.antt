pub mod Happened
pub mod Owed
pub mod Links
pub mod Steady
pub mod Wires
