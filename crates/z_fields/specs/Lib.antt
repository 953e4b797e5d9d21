pub mod Answers
pub mod Codes
pub mod Trees
pub mod Index
