-- For contracts alone, a file for each thing that they speak of (this project's own)
pub mod Kinds
pub mod Packages
pub mod Turns
pub mod Drives
pub mod Flights
pub mod Ends
pub mod Laws
