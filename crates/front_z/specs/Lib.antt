pub mod Units
-- Handed on: crates above name these through this one
pub use Rattle.front_session.specs as front_session
pub use Rattle.front_session.specs.gateway_rules as gateway_rules
