pub mod steps
pub mod Edges
pub mod Tasks
pub mod Polls
-- Handed on: crates above name these through this one
pub use Rattle.conn_served.specs as conn_served
