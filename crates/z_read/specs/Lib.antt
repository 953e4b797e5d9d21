pub mod Fault
pub mod Read
pub mod Parts
pub mod Structures
pub mod Laws
pub mod OneForm
