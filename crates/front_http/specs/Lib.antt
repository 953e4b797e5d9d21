pub mod Seeking
pub mod Heads
pub mod Gets
pub mod Laws
-- Handed on: crates above name these through this one
pub use Rattle.front_sru.specs as front_sru
pub use Rattle.front_sru.specs.sru_rules as sru_rules
