pub mod Keys
pub mod Exactly
pub mod Seeds
pub mod Entries
pub mod Digests
pub mod Stores
pub mod Views
pub mod Runs
