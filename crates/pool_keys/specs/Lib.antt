pub mod Pairs
pub mod Digests
