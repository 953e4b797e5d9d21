pub mod Serving
pub mod steps
-- Handed on: crates above name these through this one
pub use Rattle.serve.specs as serve
