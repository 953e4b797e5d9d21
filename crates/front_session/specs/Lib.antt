pub mod Sessions
pub mod Refusals
pub mod Searches
pub mod Presents
pub mod Scans
pub mod Admitting
pub mod Settling
pub mod Cutting
pub mod WaitingOf
pub mod SessionView
-- Handed on: crates above name these through this one
pub use Rattle.gateway_rules.specs as gateway_rules
