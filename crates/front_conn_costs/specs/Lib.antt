pub mod steps
-- Handed on: crates above name these through this one
pub use Rattle.front_conn.specs as front_conn
pub use Rattle.front_conn.specs.front_http as front_http
pub use Rattle.front_conn.specs.front_session as front_session
pub use Rattle.front_conn.specs.front_sru as front_sru
pub use Rattle.front_conn.specs.front_z as front_z
pub use Rattle.front_conn.specs.gateway_rules as gateway_rules
pub use Rattle.front_conn.specs.leg as leg
pub use Rattle.front_conn.specs.package as «package»
pub use Rattle.front_conn.specs.package_rules as package_rules
pub use Rattle.front_conn.specs.sru_rules as sru_rules
