pub mod Kept
pub mod Queries
pub mod Gets
pub mod Followed
-- Handed on: crates above name these through this one
pub use Rattle.sru_rules.specs as sru_rules
pub use Rattle.sru_rules.specs.gateway_rules as gateway_rules
