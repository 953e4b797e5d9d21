pub mod Heads
pub mod Kept
pub mod Opened
pub mod Operators
pub mod Weights
