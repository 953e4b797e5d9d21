pub mod Lazy
pub mod Settling
pub mod Seeking
pub mod Counting
pub mod Rosters
pub mod Spending
pub mod Dropping
pub mod Given
