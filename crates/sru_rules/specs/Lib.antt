pub mod Diagnostics
pub mod Reading
pub mod Course
pub mod Asking
pub mod Settling
pub mod Run
pub mod Answers
pub mod Laws
pub mod steps
-- Handed on: crates above name these through this one
pub use Rattle.gateway_rules.specs as gateway_rules
