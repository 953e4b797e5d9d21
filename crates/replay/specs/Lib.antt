pub mod Page
pub mod Report
pub mod Clients
pub mod Classes
pub mod Trace
pub mod Counts
pub mod Marks
pub mod Wires
pub mod Twice
pub mod Uncaused
pub mod Places
pub mod Undisturbed
pub mod steps
-- Handed on: crates above name these through this one
pub use Rattle.front_conn_costs.specs as front_conn_costs
pub use Rattle.front_conn_costs.specs.front_conn as front_conn
pub use Rattle.front_conn_costs.specs.front_http as front_http
pub use Rattle.front_conn_costs.specs.front_session as front_session
pub use Rattle.front_conn_costs.specs.front_sru as front_sru
pub use Rattle.front_conn_costs.specs.front_z as front_z
pub use Rattle.front_conn_costs.specs.gateway_rules as gateway_rules
pub use Rattle.front_conn_costs.specs.sru_rules as sru_rules
pub use Rattle.package_quiet.specs as package_quiet
pub use Rattle.package_quiet.specs.leg as leg
pub use Rattle.package_quiet.specs.package as «package»
pub use Rattle.package_quiet.specs.package_rules as package_rules
