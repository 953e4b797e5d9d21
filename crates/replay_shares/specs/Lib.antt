pub mod Works
pub mod Orderly
pub mod Shares
pub mod steps
-- Handed on: crates above name these through this one
pub use Rattle.front_conn_works.specs as front_conn_works
pub use Rattle.package_shares.specs as package_shares
pub use Rattle.package_shares.specs.leg as leg
pub use Rattle.package_shares.specs.package_quiet as package_quiet
pub use Rattle.replay.specs as replay
pub use Rattle.replay.specs.front_conn as front_conn
pub use Rattle.replay.specs.front_conn_costs as front_conn_costs
pub use Rattle.replay.specs.gateway_rules as gateway_rules
pub use Rattle.replay.specs.sru_rules as sru_rules
