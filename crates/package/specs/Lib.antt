pub mod steps
-- Handed on: crates above name these through this one
pub use Rattle.leg.specs as leg
pub use Rattle.package_rules.specs as package_rules
