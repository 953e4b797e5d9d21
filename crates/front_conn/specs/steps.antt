-- For contracts alone, a file for each thing that they speak of (this project's own)
pub mod Totals
pub mod States
pub mod Answering
pub mod Ahead
pub mod Steps
pub mod Feeding
pub mod Drives
