pub mod Sets
pub mod Fault
pub mod Expansion
pub mod Measured
pub mod Operands
pub mod Askable
