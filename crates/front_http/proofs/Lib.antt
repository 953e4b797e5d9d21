pub mod Seeking
pub mod Heads
pub mod Gets
