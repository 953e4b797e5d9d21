pub mod steps
pub mod Fronts
-- Handed on: crates above name these through this one
pub use Rattle.event_front.specs as event_front
