pub mod SetLemmas
pub mod MeasureLemmas
pub mod OperandLemmas
pub mod ExpansionLemmas
pub mod AskableLemmas
