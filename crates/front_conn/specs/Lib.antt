pub mod steps
-- Handed on: crates above name these through this one
pub use Rattle.front_http.specs as front_http
pub use Rattle.front_http.specs.front_sru as front_sru
pub use Rattle.front_http.specs.sru_rules as sru_rules
pub use Rattle.front_z.specs as front_z
pub use Rattle.front_z.specs.front_session as front_session
pub use Rattle.front_z.specs.gateway_rules as gateway_rules
pub use Rattle.package.specs as «package»
pub use Rattle.package.specs.leg as leg
pub use Rattle.package.specs.package_rules as package_rules
