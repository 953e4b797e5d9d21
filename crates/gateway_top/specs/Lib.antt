pub mod Command
pub mod Lines
pub mod Targets
pub mod Load
pub mod Outcome
pub mod Headline
pub mod Itself
pub mod OverTests
