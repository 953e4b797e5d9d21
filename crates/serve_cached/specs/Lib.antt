pub mod Beneath
-- Handed on: crates above name these through this one
pub use Rattle.serve_threads.specs as serve_threads
