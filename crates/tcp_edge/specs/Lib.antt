pub mod Links
pub mod Wires
-- Handed on: crates above name these through this one
pub use Rattle.test_wire.specs as test_wire
