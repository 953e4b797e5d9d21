pub mod steps
-- Handed on: crates above name these through this one
pub use Rattle.package_quiet.specs as package_quiet
pub use Rattle.package_quiet.specs.leg as leg
pub use Rattle.package_quiet.specs.package as «package»
pub use Rattle.package_quiet.specs.package_rules as package_rules
