pub mod Sharers
pub mod Uses
pub mod Needed
pub mod Orderly
pub mod steps
