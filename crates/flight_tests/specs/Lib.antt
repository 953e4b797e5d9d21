pub mod Flown
