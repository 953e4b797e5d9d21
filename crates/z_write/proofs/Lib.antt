pub mod KeptFront
pub mod StructureLaws
pub mod WeightLemmas
