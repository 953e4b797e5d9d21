pub mod Tallies
pub mod Found
pub mod Registers
pub mod There
