pub mod Known
pub mod Held
pub mod Sessions
pub mod Steps
pub mod Looks
