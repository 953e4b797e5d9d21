pub mod Working
-- Handed on: crates above name these through this one
pub use Rattle.conn_served.specs as conn_served
pub use Rattle.conn_served.specs.front_conn_costs as front_conn_costs
