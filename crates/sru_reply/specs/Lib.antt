pub mod Escape
pub mod Xml
pub mod Message
pub mod Reply
pub mod Bare
