pub mod Characters
pub mod Tokens
pub mod Spans
pub mod OneReading
pub mod Fault
pub mod Sentences
pub mod Refusals
