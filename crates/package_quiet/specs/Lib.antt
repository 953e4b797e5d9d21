pub mod steps
-- Handed on: crates above name these through this one
pub use Rattle.package.specs as «package»
pub use Rattle.package.specs.leg as leg
pub use Rattle.package.specs.package_rules as package_rules
