pub mod UpTo
pub mod Merged
pub mod AtRank
